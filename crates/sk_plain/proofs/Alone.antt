-- A private instruction of a lease is a step of its process without input, which looks at the process and its signals and writes the process alone.
use Rattle.sk_plain.proofs.Cites.{◌≡◌, ℕ, zero, suc, length, Bool, true, false, cond, not, ◌&&◌, ◌||◌, List, [], ◌∷◌}
use Rattle.sk_plain.proofs.Cites.{Option, Some, None, Ok, refl, sym, ◌∙◌, ap, subst, arith, ◌==◌, is_some, slice_get}
use Rattle.sk_plain.proofs.Cites.{option_and_then, unwrap_or, if◌then◌else◌, list_any, get, eq_by_cmp, eq_by_cmp_equiv}
use Rattle.sk_plain.proofs.Cites.{or_parts, true≢false, perform, with_read, Refuse, Ended, StepsAlone, with_value}
use Rattle.sk_plain.proofs.Cites.{last_of, entity_cmp, Entity, Proc, Sig, entity_total, Process, Instruction}
use Rattle.sk_plain.proofs.Cites.{private_step, private_next, number_given, process_given, at_place_if, sum_in, is_zero}
use Rattle.sk_plain.proofs.Cites.{is_negative, after_private, private_run, script_at, held, boot_pid, EntityState}
use Rattle.sk_plain.proofs.Cites.{Scripts, act, plain, goes_on, with_input, with_signals, handled, does, private_or}
use Rattle.sk_plain.proofs.Cites.{instruction_of, row, alone, is_due, KILL, KILLED, ended_with}
use Rattle.sk_objects.specs.declared.value.Value.TheVariants as values
use Rattle.sk_script.specs.declared.instruction.Instruction.TheVariants as does_
use Rattle.sk_script.specs.declared.instruction.Input.TheVariants as inputs
use Rattle.sk_store.specs.declared.entity_state.EntityState.TheVariants as stored

-- the process runs this script, and no signal is due
pub record GoesOn (look : Entity → Option EntityState) (scripts : Scripts) (pid : ℕ) (script : List Instruction) (p : Process) : Type 0 where
  pub runs : script_at scripts p.script ≡ script
  pub undisturbed : is_due p (look (Sig pid)) ≡ false

-- ---- what a private instruction keeps
pub record Keeps (p q : Process) : Type 0 where
  pub pid : q.pid ≡ p.pid
  pub script : q.script ≡ p.script
  pub handler : q.handler ≡ p.handler
  pub saved : q.saved ≡ p.saved
  pub children : q.children ≡ p.children

same : (p : Process) → Keeps p p
same p = record { pid = refl; script = refl; handler = refl; saved = refl; children = refl }

number_keeps : (p : Process) (r : ℕ) (o : Option _) → Keeps p (number_given p r o)
number_keeps p r (Some n) = record { pid = refl; script = refl; handler = refl; saved = refl; children = refl }
number_keeps p r None = record { pid = refl; script = refl; handler = refl; saved = refl; children = refl }

process_keeps : (p : Process) (r : ℕ) (o : Option ℕ) → Keeps p (process_given p r o)
process_keeps p r (Some q) = record { pid = refl; script = refl; handler = refl; saved = refl; children = refl }
process_keeps p r None = record { pid = refl; script = refl; handler = refl; saved = refl; children = refl }

jump_keeps : (b : Bool) (p : Process) (place : ℕ) → Keeps p (at_place_if b p place)
jump_keeps true p place = record { pid = refl; script = refl; handler = refl; saved = refl; children = refl }
jump_keeps false p place = record { pid = refl; script = refl; handler = refl; saved = refl; children = refl }

of_some : (p q r : Process) → Keeps p r → Some r ≡ Some q → Keeps p q
of_some p q r keeps is = subst (Keeps p) (some_same r q is) keeps where
  some_same : (a b : Process) → Some a ≡ Some b → a ≡ b
  some_same a b is = cc

pub keeps_step : (p q : Process) (i : Instruction) → private_step p i ≡ Some q → Keeps p q
keeps_step p q (does_.Set r n) is = of_some p q _ (record { pid = refl; script = refl; handler = refl; saved = refl; children = refl }) is
keeps_step p q (does_.Move to from) is = of_some p q _ (record { pid = refl; script = refl; handler = refl; saved = refl; children = refl }) is
keeps_step p q (does_.Add to from) is = of_some p q _ (number_keeps p to (sum_in p to from)) is
keeps_step p q (does_.Text text) is = of_some p q _ (record { pid = refl; script = refl; handler = refl; saved = refl; children = refl }) is
keeps_step p q (does_.Len r) is = of_some p q _ (record { pid = refl; script = refl; handler = refl; saved = refl; children = refl }) is
keeps_step p q (does_.SelfPid r) is = of_some p q _ (record { pid = refl; script = refl; handler = refl; saved = refl; children = refl }) is
keeps_step p q (does_.BootPid r n) is = of_some p q _ (process_keeps p r (boot_pid n)) is
keeps_step p q (does_.Jump place) is = of_some p q _ (record { pid = refl; script = refl; handler = refl; saved = refl; children = refl }) is
keeps_step p q (does_.Zero r place) is = of_some p q _ (jump_keeps (is_zero (held p.registers r)) p place) is
keeps_step p q (does_.Negative r place) is = of_some p q _ (jump_keeps (is_negative (held p.registers r)) p place) is
keeps_step p q _ is = cc

-- ---- one instruction
some_long : (n : ℕ) (ns : List ℕ) → (not (length (n ∷ ns) == 0) && true) ≡ true
some_long n ns = grind arith

-- where no signal is due, a step does what the instruction says
not_due : (pid : ℕ) (p : Process) (i : Option Instruction) (queue : List ℕ) (handler saved : Option ℕ)
    → (not (length queue == 0) && (is_some handler && not (is_some saved))) ≡ false → handled pid p i queue handler saved ≡ does pid p i
not_due pid p i [] handler saved h = refl
not_due pid p i (n ∷ ns) (Some a) (Some b) h = refl
not_due pid p i (n ∷ ns) (Some a) None h = absurd (true≢false (sym (some_long n ns) ∙ h))
not_due pid p i (n ∷ ns) None saved h = refl

undisturbed_does : (pid : ℕ) (p : Process) (i : Option Instruction) (o : Option EntityState) → is_due p o ≡ false → with_signals pid p i o ≡ does pid p i
undisturbed_does pid p i (Some (stored.Value (values.Signals queue))) h =
    let parts = or_parts _ _ h in
    ap (λ b. cond b (ended_with pid p KILLED) (handled pid p i queue p.handler p.saved)) parts.0 ∙ not_due pid p i queue p.handler p.saved parts.1
undisturbed_does pid p i o h = refl

private_does : (pid : ℕ) (p q : Process) (i : Option Instruction) → option_and_then (private_step p) i ≡ Some q → does pid p i ≡ alone pid q
private_does pid p q (Some i) is = ap (λ o. private_or pid o (row pid p i)) is
private_does pid p q None is = cc

keeps_next : (p q : Process) (i : Option Instruction) → option_and_then (private_step p) i ≡ Some q → Keeps p q
keeps_next p q (Some i) is = keeps_step p q i is
keeps_next p q None is = cc

-- a process that goes on has not ended
goes : (p q : Process) (script : List Instruction) → private_next p script ≡ Some q → (p.ended ≡ false) × (option_and_then (private_step p) (slice_get script p.place) ≡ Some q)
goes p q script is =
    elim p.ended as (λ b. (if b then None else option_and_then (private_step p) (slice_get script p.place)) ≡ Some q → (b ≡ false) × (option_and_then (private_step p) (slice_get script p.place) ≡ Some q)) [
      | true ↦ λ is. cc
      | false ↦ λ is. (refl, is)
    ] is

-- a script that is not declared is as one without instructions
instruction_found : (o : Option (List Instruction)) (place : ℕ) → instruction_of o place ≡ slice_get (unwrap_or o []) place
instruction_found (Some script) place = refl
instruction_found None place = refl

module _ (look : Entity → Option EntityState) (scripts : Scripts) (pid : ℕ) (script : List Instruction) where
  step_alone : (p q : Process) → GoesOn look scripts pid script p → private_next p script ≡ Some q
      → perform (with_value (plain scripts) look (Proc pid) (stored.Process p)) (act scripts pid inputs.None)
      ≡ Ok (record { read = (Proc pid, Some (stored.Process p)) ∷ (Sig pid, look (Sig pid)) ∷ []; written = (Proc pid, Some (stored.Process q)) ∷ []; said = None })
  step_alone p q on is =
      let here = with_value (plain scripts) look (Proc pid) (stored.Process p) in
      let next = goes p q script is in
      let self : eq_by_cmp entity_cmp (Proc pid) (Proc pid) ≡ true = (eq_by_cmp_equiv entity_total).refl (Proc pid) in
      let there : here (Proc pid) ≡ Some (stored.Process p) = ap (λ b. if b then Some (stored.Process p) else look (Proc pid)) self in
      let i = instruction_of (get scripts p.script) p.place in
      let found : i ≡ slice_get script p.place = instruction_found (get scripts p.script) p.place ∙ ap (λ is. slice_get is p.place) on.runs in
      ap (λ o. with_read (Proc pid) o (perform here (goes_on scripts pid inputs.None o))) there
      ∙ ap (λ b. with_read (Proc pid) (Some (stored.Process p)) (perform here (if b then Refuse Ended else with_input pid p i inputs.None))) next.0
      ∙ ap (λ t. with_read (Proc pid) (Some (stored.Process p)) (with_read (Sig pid) (look (Sig pid)) (perform here t)))
      (undisturbed_does pid p i (look (Sig pid)) on.undisturbed ∙ private_does pid p q i (ap (option_and_then (private_step p)) found ∙ next.1))

  still_on : (p q : Process) → GoesOn look scripts pid script p → private_next p script ≡ Some q → GoesOn look scripts pid script q
  still_on p q on is =
      let keeps = keeps_next p q (slice_get script p.place) (goes p q script is).1 in record {
        runs = ap (script_at scripts) keeps.script ∙ on.runs;
        undisturbed = as_before (look (Sig pid)) keeps ∙ on.undisturbed;
      } where
        as_before : (o : Option EntityState) → Keeps p q → is_due q o ≡ is_due p o
        as_before (Some (stored.Value (values.Signals queue))) keeps = λ i. list_any (λ n. n == KILL) queue || (not (length queue == 0) && (is_some (keeps.handler i) && not (is_some (keeps.saved i))))
        as_before o keeps = refl

-- the instructions counted from the first or from the last
same_option : (o : Option Process) → o ≡ option_and_then (λ q. Some q) o
same_option None = refl
same_option (Some q) = refl

one_more : (script : List Instruction) (n : ℕ) (p : Process) → option_and_then (λ q. private_next q script) (private_run script n p) ≡ private_run script (suc n) p
one_more script zero p = same_option (private_next p script)
one_more script (suc n) p =
    elim (private_next p script) as (λ o. option_and_then (λ q. private_next q script) (option_and_then (private_run script n) o) ≡ option_and_then (private_run script (suc n)) o) [
      | None ↦ refl
      | Some r ↦ one_more script n r
    ]

pub runs_same : (script : List Instruction) (n : ℕ) (p : Process) → after_private script n p ≡ private_run script n p
runs_same script zero p = refl
runs_same script (suc n) p = ap (option_and_then (λ q. private_next q script)) (runs_same script n p) ∙ one_more script n p

module _ (look : Entity → Option EntityState) (scripts : Scripts) (pid : ℕ) (script : List Instruction) where
  -- the processes after each of the instructions, the last of which is q
  pub record Alone (n : ℕ) (p q : Process) : Type 0 where
    pub values : List EntityState
    pub long : length values ≡ n
    pub steps : StepsAlone (plain scripts) look (record { pid = pid; input = inputs.None; guess = None }) (Proc pid) (Proc pid ∷ Sig pid ∷ []) (stored.Process p) values
    pub last : last_of (stored.Process p) values ≡ stored.Process q

  pub alone_run : (n : ℕ) (p q : Process) → GoesOn look scripts pid script p → private_run script n p ≡ Some q → Alone n p q
  alone_run zero p q on is = record { values = []; long = refl; steps = tt; last = ap stored.Process (some_same p q is) } where
    some_same : (a b : Process) → Some a ≡ Some b → a ≡ b
    some_same a b is = cc
  alone_run (suc n) p q on is =
      elim (private_next p script) as (λ o. private_next p script ≡ o → option_and_then (private_run script n) o ≡ Some q → Alone (suc n) p q) [
        | None ↦ λ _ is. cc
        | Some r ↦ λ next is.
            let rest = alone_run n r q (still_on look scripts pid script p r on next) is in record {
              values = stored.Process r ∷ rest.values;
              long = ap suc rest.long;
              steps = (((Proc pid, Some (stored.Process p)) ∷ (Sig pid, look (Sig pid)) ∷ [], refl, step_alone look scripts pid script p r on next), rest.steps);
              last = rest.last;
            }
      ] refl is
