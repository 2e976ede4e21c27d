-- A guess is struck where it was made, no event decides it, and the record has its entry no more: the tests say what the status says.
use Rattle.sk_counts.proofs.Names.{Some, Bool, subst, inr, ◌∷◌, inl, ◌≡◌, ◌+◌, Option, arith, List, length, ◌||◌, ℕ}
use Rattle.sk_counts.proofs.Names.{true, sym, None, false, ◌<◌, refl, [], ◌∙◌, map, and_from, not_from_false}
use Rattle.sk_counts.proofs.Names.{true≢false, or_cases, false_from_ne_true, or_left, or_from, or_parts, eq-eqb}
use Rattle.sk_counts.proofs.Names.{not-true, Contains, list_any, ◌↔◌, ◌⊎◌, is_struck_status, is_struck, makes}
use Rattle.sk_counts.proofs.Names.{decides, HasStatus, record_at, events_of, KernelView, HasSoundTrace, plain, image}
use Rattle.sk_counts.proofs.Names.{is_made, beyond, marked_is, or_no, draws, is_commit, has_fail, is_drawn, any_from}
use Rattle.sk_counts.proofs.Names.{has_commit, is_fail, has_entry, any_at, and_both, StatusOr, status_in, HasEntry}
use Rattle.sk_counts.proofs.Names.{Fail, StatusIs, Happens, IsDrawn, Commit, Status, Struck, ScriptMap, EntryView}
use Rattle.sk_counts.proofs.Names.{Event}
use Rattle.sk_trace.specs.declared.event.Event.TheVariants as events

-- a test of events that is one of their images
same_test : (p : Event → Bool) (q : Happens EntryView → Bool) → ((e : Event) → p e ≡ q (image e)) → (es : List Event) → list_any p es ≡ list_any q (map image es)
same_test p q same [] = refl
same_test p q same (e ∷ es) = λ i. same e i || same_test p q same es i

makes_is : (scripts : ScriptMap) (g : ℕ) (e : Event) → makes g e ≡ draws (plain scripts) g (image e)
makes_is scripts g (events.Guess id pid input) = refl
makes_is scripts g e = refl

abbrev is_decision : ℕ → Happens EntryView → Bool
is_decision g e = is_commit g e || is_fail g e

decides_is : (g : ℕ) (e : Event) → decides g e ≡ is_decision g (image e)
decides_is g (events.Commit id) = sym (or_no _)
decides_is g e = refl

module _ (k : KernelView) (g : ℕ) where
  made_is : (list_any (makes g) k.trace ≡ true) ↔ IsDrawn (plain k.scripts) (events_of k) g
  made_is =
      let same = same_test (makes g) (draws (plain k.scripts) g) (makes_is k.scripts g) k.trace in
      let is = is_drawn (plain k.scripts) (events_of k) g in
      (λ h. is.0 (sym same ∙ h), λ d. same ∙ is.1 d)

  decided_same : list_any (decides g) k.trace ≡ list_any (is_decision g) (events_of k)
  decided_same = same_test (decides g) (is_decision g) (decides_is g) k.trace

  decided_from : list_any (decides g) k.trace ≡ true → Contains (events_of k) (Commit g) ⊎ Contains (events_of k) (Fail g)
  decided_from h =
      let x = any_from (is_decision g) (events_of k) (sym decided_same ∙ h) in
      elim (or_cases _ _ x.2) [
        | inl commits ↦ inl ((has_commit (events_of k) g).0 (any_at (is_commit g) (events_of k) x.0 x.1 commits))
        | inr fails ↦ inr ((has_fail (events_of k) g).0 (any_at (is_fail g) (events_of k) x.0 x.1 fails))
      ]

  by_commit : Contains (events_of k) (Commit g) → list_any (decides g) k.trace ≡ true
  by_commit there = decided_same ∙ any_at (is_decision g) (events_of k) (Commit g) there (or_left _ _ (eq-eqb g g refl))

  by_failure : Contains (events_of k) (Fail g) → list_any (decides g) k.trace ≡ true
  by_failure there = decided_same ∙ any_at (is_decision g) (events_of k) (Fail g) there (eq-eqb g g refl)

  entry_is : (is_made (record_at k) g ≡ true) ↔ HasEntry (plain k.scripts) (record_at k) g
  entry_is =
      let same = marked_is (plain k.scripts) k.start k.start (record_at k) g in
      let is = has_entry (plain k.scripts) k.start (record_at k) g in
      (λ h. is.0 (same ∙ h), λ d. sym same ∙ is.1 d)

  struck_here : (is_struck k g ≡ true) ↔ StatusIs (plain k.scripts) k.start (events_of k) g Struck
  struck_here = (
    λ h.
        let parts = and_both _ _ h in
        let none = or_parts _ _ (not-true _ parts.1) in (
          made_is.0 parts.0,
          λ commits. true≢false (sym (by_commit commits) ∙ none.0),
          λ fails. true≢false (sym (by_failure fails) ∙ none.0),
          λ there. true≢false (sym (entry_is.1 there) ∙ none.1),
        ),
    λ s.
        let undecided = false_from_ne_true (list_any (decides g) k.trace) (λ h. elim (decided_from h) [ inl commits ↦ s.1 commits | inr fails ↦ s.2 fails ]) in
        let gone = false_from_ne_true (is_made (record_at k) g) (λ h. s.3 (entry_is.0 h)) in
        and_from _ _ (made_is.1 s.0) (not_from_false _ (or_from _ _ undecided gone)),
  )

  pub struck_is : length k.earlier < g → (is_struck k g ≡ true) ↔ HasStatus k g Struck
  struck_is later =
      let none : status_in k.earlier g ≡ None = beyond k.earlier g later in
      subst (λ o. (is_struck k g ≡ true) ↔ StatusOr (plain k.scripts) k.start o (events_of k) g Struck) (sym none) struck_here

  -- a guess of an earlier epoch is none of the trace
  pub none_earlier : HasSoundTrace k → g < length k.earlier + 1 → false ≡ is_struck k g
  none_earlier sound early = sym (false_from_ne_true (is_struck k g) (λ h. let later = sound.above g (struck_here.0 h).0 in absurd (omega (arith, later, early))))

  module _ (later : length k.earlier < g) where
    never : (s : Option Status) → ((t : Status) → (s ≡ Some t) ↔ HasStatus k g t) → (s ≡ Some Struck → ⊥) → false ≡ is_struck k g
    never s is other = sym (false_from_ne_true (is_struck k g) (λ h. other ((is Struck).1 ((struck_is later).0 h))))

    pub status_test : (s : Option Status) → ((t : Status) → (s ≡ Some t) ↔ HasStatus k g t) → is_struck_status s ≡ is_struck k g
    status_test (Some Struck) is = sym ((struck_is later).1 ((is Struck).0 refl))
    status_test s is = never s is (λ e. absurd cc)
