-- Held tokens behind each of the kernel's calls: from what the calls answer.
use Rattle.sk_kernel.proofs.Names.{Some, subst, inr, Ok, ◌∷◌, Err, inl, zero, ◌≡◌, Option, arith, List, ap, ◌++◌}
use Rattle.sk_kernel.proofs.Names.{length, length-map, append_assoc, ℕ, true, sym, None, suc, false, refl, Result, [], ◌∙◌}
use Rattle.sk_kernel.proofs.Names.{true≢false, or_right, or_left, eq-eqb, map-append, list_any-append, IfErr}
use Rattle.sk_kernel.proofs.Names.{replicate, ◌==◌, Token, ids, IsHeld, EpochPost, GuessPost}
use Rattle.sk_kernel.proofs.HandedIn.{no_step}
use Rattle.sk_kernel.proofs.Whole.{map_more}
use Rattle.sk_kernel.proofs.Names.{IsNew, StepPost, with_steps, HandInPost, alone_step, next_guess, events_of}
use Rattle.sk_kernel.proofs.Names.{with_event, undecided_at, KernelView, HasSoundTrace, HandIn, Stale}
use Rattle.sk_kernel.specs.declared.hand_in.HandIn.TheVariants.{TraceFull}
use Rattle.sk_kernel.proofs.Names.{Memory, EpochRefusal, plain, Refusal, has, undecided_of, LeaseView, Input}
use Rattle.sk_kernel.proofs.Names.{TerminalMap, EntryView, TraceView, Event}
use Rattle.sk_script.specs.declared.instruction.Input.TheVariants as inputs
use Rattle.sk_trace.specs.declared.event.Event.TheVariants as events
use Rattle.sk_kernel.specs.declared.kernel.EpochRefusal.TheVariants as epoch_refusals
use Rattle.sk_kernel.proofs.Opens.{open_taken}
use Rattle.sk_kernel.proofs.Held.{all_still, still_unspent, drawn_unspent}

-- without tokens nothing is undecided
pub none_held : (k : KernelView) (ts : List Token) → ids ts ≡ [] → IsHeld k ts → undecided_at k ≡ []
none_held k ts none held = nothing (undecided_at k) (λ g is. true≢false (sym (held.each g is) ∙ ap (has g) none)) where
  nothing : (gs : List ℕ) → ((g : ℕ) → has g gs ≡ true → ⊥) → gs ≡ []
  nothing [] none = refl
  nothing (g ∷ gs) none = absurd (none g (or_left (g == g) (has g gs) (eq-eqb g g refl)))

-- nor is there a token where no number is held
pub no_token : (ts : List Token) → ids ts ≡ [] → length ts ≡ 0
no_token ts none = sym (length-map ts (λ t. t.id)) ∙ ap length none

-- ---- a step

step_holds : (k : KernelView) (pid : ℕ) (input : Input) (ts : List Token) → IsHeld k ts → IsHeld (with_event k (events.Step pid input)) ts
step_holds k pid input ts held =
    let e : Event = events.Step pid input in
    record {
      unspent = all_still k (with_event k e) ts (λ t _ u. still_unspent k e t (λ is. cc) (λ is. cc) u) held.unspent;
      each = λ g is. elim (open_taken (plain k.scripts) k.start (events_of k) (record { pid = pid; input = input; guess = None }) g
          (ap (λ es. has g (undecided_of (plain k.scripts) k.start es)) (sym (map_more k.trace e)) ∙ is)) [
            | inl before ↦ held.each g before
            | inr drawn ↦ absurd (let none : None ≡ Some g = drawn in cc)
          ];
    }

pub steps_hold : (result : Result (Unit {0}) Refusal) (refused : Option Refusal) (pid : ℕ) (input : Input) (old new : KernelView) (ts : List Token)
    → StepPost result refused (events.Step pid input) old new → IsHeld old ts → IsHeld new ts
steps_hold (Ok u) refused pid input old new ts h held = subst (λ k. IsHeld k ts) (sym h.1) (step_holds old pid input ts held)
steps_hold (Err why) refused pid input old new ts h held = subst (λ k. IsHeld k ts) (sym h.1) held

-- ---- a hand-in, which is so many steps

handed : (ts : List Token) (pid n : ℕ) (k : KernelView) → IsHeld k ts → IsHeld (with_steps k pid n) ts
handed ts pid zero k held = subst (λ k. IsHeld k ts) (sym (no_step k pid)) held
handed ts pid (suc n) k held =
    subst (λ es. IsHeld (record k { trace = es }) ts) (append_assoc k.trace (alone_step pid ∷ []) (replicate n (alone_step pid)))
    (handed ts pid n (with_event k (alone_step pid)) (step_holds k pid inputs.None ts held))

pub taken_in : (result : Result (Unit {0}) (LeaseView × HandIn)) (l : LeaseView) (old new : KernelView) (ts : List Token) → HandInPost result l old new
    → IsHeld old ts → IsHeld new ts
taken_in (Ok u) l old new ts h held = subst (λ k. IsHeld k ts) (sym h.2) (handed ts l.lent.pid l.count old held)
taken_in (Err (back, Stale)) l old new ts h held = subst (λ k. IsHeld k ts) (sym h.1.1) held
taken_in (Err (back, TraceFull)) l old new ts h held = subst (λ k. IsHeld k ts) (sym h.1.2) held
taken_in (Err (back, Memory)) l old new ts h held = subst (λ k. IsHeld k ts) (sym h.1.3) held

-- ---- a guess

pub draws_hold : (result : Result Token Refusal) (s : Token) (refused : Option Refusal) (pid : ℕ) (input : Input) (old new : KernelView) (ts : List Token)
    → HasSoundTrace old → GuessPost result refused pid input old new → result ≡ Ok s → IsHeld old ts → IsHeld new (ts ++ s ∷ [])
draws_hold (Err x) s refused pid input old new ts sound h e held = absurd cc
draws_hold (Ok x) s refused pid input old new ts sound h e held =
    let id = next_guess old in
    let event : Event = events.Guess id pid input in
    let n : EntryView = record { pid = pid; input = input; guess = Some id } in
    let same : x ≡ s = cc in
    let fresh : IsNew old (with_event old event) = subst (IsNew old) h.2 h.3 in
    subst (λ t. IsHeld new (ts ++ t ∷ [])) (sym h.1 ∙ same) (subst (λ k. IsHeld k (ts ++ record { kernel = old.number; id = id } ∷ [])) (sym h.2) (record {
      unspent = drawn_unspent old pid input ts sound fresh held.unspent;
      each = λ g is. ap (has g) (map-append (λ (t : Token). t.id) ts (record { kernel = old.number; id = id } ∷ [])) ∙ list_any-append (λ h. h == g) (ids ts) (id ∷ [])
          ∙ elim (open_taken (plain old.scripts) old.start (events_of old) n g
          (ap (λ es. has g (undecided_of (plain old.scripts) old.start es)) (sym (map_more old.trace event)) ∙ is)) [
            | inl before ↦ or_left _ _ (held.each g before)
            | inr drawn ↦ or_right _ _ (or_left (id == g) false (eq-eqb id g (let both : Some id ≡ Some g = drawn in cc)))
          ];
    }))

-- ---- an epoch

anew : (result : Result (TraceView × TerminalMap) EpochRefusal) (old new : KernelView) → EpochPost result old new → IsHeld old [] → IsHeld new []
anew (Ok left) old new h held = record {
  unspent = tt;
  each = λ g is. absurd (true≢false (sym is ∙ ap (λ (k : KernelView). has g (undecided_at k)) h.3.view));
}
anew (Err (epoch_refusals.Undecided n)) old new h held = subst (λ k. IsHeld k []) (sym h.2) held
anew (Err epoch_refusals.Memory) old new h held = subst (λ k. IsHeld k []) (sym h.1) held

pub epoch_holds : (result : Result (TraceView × TerminalMap) EpochRefusal) (old new : KernelView) (ts : List Token) → ids ts ≡ [] → EpochPost result old new → IsHeld old ts → IsHeld new ts
epoch_holds result old new [] none h held = anew result old new h held
epoch_holds result old new (t ∷ ts) none h held = absurd cc

-- where none is undecided, memory alone can want
pub only_memory : (result : Result (TraceView × TerminalMap) EpochRefusal) (old new : KernelView) → undecided_at old ≡ [] → EpochPost result old new → IfErr result (λ why. why ≡ epoch_refusals.Memory)
only_memory (Ok left) old new none h = tt
only_memory (Err (epoch_refusals.Undecided n)) old new none h = let few : n ≡ 0 = h.0 ∙ ap length none in absurd (omega (arith, few, h.1))
only_memory (Err epoch_refusals.Memory) old new none h = refl
