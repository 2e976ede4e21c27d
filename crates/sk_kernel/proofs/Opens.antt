-- Which guesses are undecided behind one more event, over any kernel.
use Rattle.sk_kernel.proofs.Names.{Some, Bool, subst, inr, ◌∷◌, inl, ◌≡◌, Option, List, ap, ◌++◌, ℕ, true, sym, None}
use Rattle.sk_kernel.proofs.Names.{false, [], ◌∙◌, not, true≢false, or_cases, false_from_ne_true, eqb-true}
use Rattle.sk_kernel.proofs.Names.{Contains-push, list_any-append, FinMap, Contains, filter, ◌⊎◌, ◌==◌, has_filter}
use Rattle.sk_kernel.proofs.Names.{is_undecided, recorded_more, and_both, has, effects, System, strike, Happens}
use Rattle.sk_kernel.proofs.Names.{Taken, Commit, Fail, undecided_of, IsSound, marks, Record, no_record, all_recorded}
use Rattle.sk_kernel.proofs.Names.{still_marked}

pub mark_has : (m : Option ℕ) (y : ℕ) → has y (marks m) ≡ true → m ≡ Some y
mark_has None y h = absurd (true≢false (sym h))
mark_has (Some x) y h = elim (or_cases _ _ h) [ inl is ↦ ap Some (eqb-true x y is) | inr none ↦ absurd (true≢false (sym none)) ]

-- what a filter keeps was there
pub has_filtered : (p : ℕ → Bool) (xs : List ℕ) (y : ℕ) → has y (filter p xs) ≡ true → has y xs ≡ true
has_filtered p xs y h = (and_both _ _ (sym (has_filter p y xs) ∙ h)).1

module _ {E V W F N : Type 0} (K : System E V W F N) (start : FinMap K.order V) where
  pub open_taken : (es : List (Happens N)) (n : N) (y : ℕ) → has y (undecided_of K start (es ++ Taken n ∷ [])) ≡ true
      → (has y (undecided_of K start es) ≡ true) ⊎ (K.mark n ≡ Some y)
  open_taken es n y h =
      elim (or_cases _ _ (sym (list_any-append (λ t. t == y) (undecided_of K start es) (marks (K.mark n)))
      ∙ ap (λ (r : Record N). has y r.undecided) (sym (recorded_more K start no_record es (Taken n))) ∙ h)) [
        | inl before ↦ inl before
        | inr new ↦ inr (mark_has (K.mark n) y new)
      ]

  pub open_commit : (es : List (Happens N)) (g y : ℕ) → has y (undecided_of K start (es ++ Commit g ∷ [])) ≡ true → has y (undecided_of K start es) ≡ true
  open_commit es g y h =
      has_filtered (λ t. not (t == g)) (undecided_of K start es) y (ap (λ (r : Record N). has y r.undecided) (sym (recorded_more K start no_record es (Commit g))) ∙ h)

  pub open_fail : (es : List (Happens N)) (g y : ℕ) → has y (undecided_of K start (es ++ Fail g ∷ [])) ≡ true → has y (undecided_of K start es) ≡ true
  open_fail es g y h =
      has_filtered (still_marked (effects K start (strike K start (all_recorded K start no_record es).entries g))) (undecided_of K start es) y
      (ap (λ (r : Record N). has y r.undecided) (sym (recorded_more K start no_record es (Fail g))) ∙ h)

  -- a decided guess is not
  pub decided_shut : (es : List (Happens N)) (e : Happens N) (g : ℕ) → IsSound K start (es ++ e ∷ []) → (e ≡ Commit g) ⊎ (e ≡ Fail g)
      → has g (undecided_of K start (es ++ e ∷ [])) ≡ false
  decided_shut es e g sound decides = false_from_ne_true _ (λ is.
      let s = (is_undecided K start (es ++ e ∷ []) sound g).0 is in
      elim decides [
        | inl commits ↦ s.0 (subst (Contains (es ++ e ∷ [])) commits (Contains-push es e))
        | inr fails ↦ s.1 (subst (Contains (es ++ e ∷ [])) fails (Contains-push es e))
      ])
