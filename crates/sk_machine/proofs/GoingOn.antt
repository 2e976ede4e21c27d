-- A private step of a process that goes on with the guesses that it depends on.
use Rattle.sk_machine.proofs.Names.{◌≡◌, ℕ, List, [], ◌∷◌, Some, None, refl, sym, ◌∙◌, ap, subst, nat_cmp}
use Rattle.sk_machine.proofs.Names.{IsStrictlySortedBy, MergedTakes, Entity, Proc, Sig, OpenGuess, Input, became}
use Rattle.sk_machine.proofs.Names.{SlotMap, look_at, slots_wrote, Scripts, next_in, plain, done_by, Instruction, done}
use Rattle.sk_machine.proofs.Names.{process_in, Private, AllExact, Covers, tags_in, Parts, machine_of, CanTake}
use Rattle.sk_machine.proofs.Names.{RestsAsProcess, Performed, planned_writes}
use Rattle.sk_store.specs.declared.entity_state.EntityState.TheVariants as stored
use Rattle.sk_machine.proofs.AsProcess.{alike_one, can_with, exact_after, reads_on, taken_after}
use Rattle.sk_machine.proofs.Writes.{performed}

-- what it does is the instruction that was found
pub by_next : (p : Parts) (scripts : Scripts) (pid : ℕ) (i : Instruction) → next_in scripts (process_in (look_at p.slots (Proc pid))) ≡ Some i
    → (new : SlotMap) → new ≡ slots_wrote (tags_in p.slots (Proc pid)) p.slots (Proc pid) (Some (became (done i) (look_at p.slots (Proc pid))))
    → new ≡ slots_wrote (tags_in p.slots (Proc pid)) p.slots (Proc pid) (Some (became (λ q. done_by q (next_in scripts q)) (look_at p.slots (Proc pid))))
by_next p scripts pid i next new is =
    is ∙ ap (λ o. slots_wrote (tags_in p.slots (Proc pid)) p.slots (Proc pid) (Some (stored.Process (done_by (process_in (look_at p.slots (Proc pid))) o)))) (sym next)

module _ (p : Parts) (scripts : Scripts) (pid : ℕ) (input : Input) (can : CanTake p scripts pid input Private)
    (rises : IsStrictlySortedBy nat_cmp (tags_in p.slots (Proc pid))) (signals : Covers (tags_in p.slots (Proc pid)) (Sig pid ∷ []) (tags_in p.slots))
    (new : SlotMap) (is : new ≡ slots_wrote (tags_in p.slots (Proc pid)) p.slots (Proc pid) (Some (became (λ q. done_by q (next_in scripts q)) (look_at p.slots (Proc pid))))) where
  abbrev own : List ℕ
  own = tags_in p.slots (Proc pid)

  alike : RestsAsProcess p.slots own pid input Private
  alike = record {
    own = refl;
    reads = reads_on pid input (tags_in p.slots) signals;
    writes = alike_one own (Proc pid) (tags_in p.slots) refl;
    rising = rises;
  }

  did : Performed p.slots own (planned_writes p.slots scripts pid input Private) new
  did =
      performed (planned_writes p.slots scripts pid input Private) (record { slots = p.slots; tags = own }) new (refl, tt)
      (can_with p scripts pid input Private own can alike).clean is

  -- the lists stay exact
  pub went_exact : (os : List (OpenGuess Entity)) → AllExact (tags_in p.slots) os → AllExact (tags_in new) os
  went_exact os all = exact_after p scripts pid input Private own can alike new did os all

  -- and the step is taken
  pub went_on : (b : Parts) → b.slots ≡ new → b.opens ≡ p.opens → b.guesses ≡ p.guesses → b.texts ≡ p.texts
      → MergedTakes (plain scripts) (machine_of p) (record { pid = pid; input = input; guess = None }) (machine_of b)
  went_on b slots opens guesses texts =
      taken_after p scripts pid input Private own can alike b
      (subst (λ m. Performed p.slots own (planned_writes p.slots scripts pid input Private) m) (sym slots) did) opens guesses texts
