-- Entities in any order, sorted and each once: the set that they make one by one.
use Rattle.sk_guesses.proofs.Names.{◌≡◌, Bool, true, false, ◌||◌, List, [], ◌∷◌, inl, inr, refl, sym, ◌∙◌, ap, subst, arith}
use Rattle.sk_guesses.proofs.Names.{AllByRecursion, Ordering, Less, Equal, Greater, ordering_reverse, is_eq, eq_by_cmp, is_in}
use Rattle.sk_guesses.proofs.Names.{IsTotalOrder, IsAntisymmetric, with_entity, with_entities, true≢false, or_cases, or_left, or_right, both_ways}
use Rattle.std.specs.List.{dedup, dedup_from}
use Rattle.std.specs.List.Sorted.{IsStrictlySortedBy, IsPermutation, IsSorted}
use Rattle.std.proofs.lemmas.List.Kept.{IsStrictlySortedBy-dedup}
use Rattle.std.proofs.lemmas.List.Sorted.{list_any-IsPermutation}
use Rattle.sk_guesses.proofs.Places.{rises_with, with_all_in, tied_is}
use Rattle.std.proofs.lemmas.Bool.Decides.{nat_tests}

ties_itself : (o : Ordering) → o ≡ ordering_reverse o → is_eq o ≡ true
ties_itself Equal is = refl
ties_itself Less is = cc
ties_itself Greater is = cc

not_both : (o : Ordering) → o ≡ ordering_reverse Less → o ≡ Less → false ≡ true
not_both o back less = cc

module _ {E : Type 0} {R : E → E → Ordering} (total : IsTotalOrder R) (exact : IsAntisymmetric R) where
  tied : (x : E) → eq_by_cmp R x x ≡ true
  tied x = ties_itself (R x x) (total.antisymm x x)

  among_greater : (x q : E) (xs : List E) → AllByRecursion (λ y. R x y ≡ Less) xs → is_in R xs q ≡ true → R x q ≡ Less
  among_greater x q [] all here = absurd (true≢false (sym here))
  among_greater x q (y ∷ ys) all here =
      elim (or_cases _ _ here) [
        | inl is ↦ subst (λ z. R x z ≡ Less) (sym (tied_is total exact q y is)) all.0
        | inr later ↦ among_greater x q ys all.1 later
      ]

  one_way : (x y : E) → R x y ≡ Less → R y x ≡ Less → false ≡ true
  one_way x y less more = not_both (R x y) (total.antisymm x y ∙ ap ordering_reverse more) less

  apart : (x q : E) → R x q ≡ Less → x ≡ q → false ≡ true
  apart x q less same = one_way x q less (subst (λ z. R z x ≡ Less) same (subst (λ z. R x z ≡ Less) (sym same) less))

  first_same : (x y : E) (xs ys : List E) → AllByRecursion (λ z. R x z ≡ Less) xs → AllByRecursion (λ z. R y z ≡ Less) ys
      → is_in R (y ∷ ys) x ≡ true → is_in R (x ∷ xs) y ≡ true → x ≡ y
  first_same x y xs ys all_x all_y x_there y_there =
      elim (or_cases _ _ x_there) [
        | inl is ↦ tied_is total exact x y is
        | inr later ↦ elim (or_cases _ _ y_there) [
          | inl is ↦ sym (tied_is total exact y x is)
          | inr earlier ↦ absurd (true≢false (sym (one_way y x (among_greater y x ys all_y later) (among_greater x y xs all_x earlier))))
        ]
      ]

  rest_within : (x y : E) (xs ys : List E) → x ≡ y → AllByRecursion (λ z. R x z ≡ Less) xs
      → ((q : E) → is_in R (x ∷ xs) q ≡ is_in R (y ∷ ys) q) → (q : E) → is_in R xs q ≡ true → is_in R ys q ≡ true
  rest_within x y xs ys same all h q here =
      elim (or_cases _ _ (sym (h q) ∙ or_right _ _ here)) [
        | inl is ↦ absurd (true≢false (sym (apart x q (among_greater x q xs all here) (same ∙ sym (tied_is total exact q y is)))))
        | inr later ↦ later
      ]

  itself : (x : E) (xs : List E) → is_in R (x ∷ xs) x ≡ true
  itself x xs = or_left _ _ (tied x)

  -- two lists that rise are the same where they have the same
  same_set : (xs ys : List E) → IsStrictlySortedBy R xs → IsStrictlySortedBy R ys → ((q : E) → is_in R xs q ≡ is_in R ys q) → xs ≡ ys
  unfolding IsStrictlySortedBy
  same_set [] [] s t h = refl
  same_set [] (y ∷ ys) s t h = absurd (true≢false (sym (itself y ys) ∙ sym (h y)))
  same_set (x ∷ xs) [] s t h = absurd (true≢false (sym (itself x xs) ∙ h x))
  same_set (x ∷ xs) (y ∷ ys) s t h =
      let same = first_same x y xs ys s.0 t.0 (sym (h x) ∙ itself x xs) (h y ∙ itself y ys) in
      let rest = same_set xs ys s.1 t.1 (λ q. both_ways _ _
      (rest_within x y xs ys same s.0 h q)
      (rest_within y x ys xs (sym same) t.0 (λ k. sym (h k)) q)) in
      (λ i. same i ∷ rest i)

  all_rise : (es xs : List E) → IsStrictlySortedBy R xs → IsStrictlySortedBy R (with_entities R xs es)
  all_rise [] xs rises = rises
  all_rise (e ∷ es) xs rises = all_rise es (with_entity R xs e) (rises_with total exact xs e rises)

  none_rise : IsStrictlySortedBy R []
  unfolding IsStrictlySortedBy
  none_rise = tt

  module _ (same : E → E → Bool) (ties : (x y : E) → same x y ≡ eq_by_cmp R x y) where
    from_in : (k : E) (xs : List E) (q : E) → is_in R (dedup_from same k xs) q ≡ is_in R (k ∷ xs) q
    from_in k [] q = refl
    from_in k (x ∷ xs) q = grind (arith, nat_tests, from_in k xs q, from_in x xs q, ties x k, tied_is total exact x k)

    once_in : (xs : List E) (q : E) → is_in R (dedup same xs) q ≡ is_in R xs q
    once_in [] q = refl
    once_in (x ∷ xs) q = from_in x xs q

    pub sorted_rise : (xs ys : List E) → IsSorted R ys → IsStrictlySortedBy R (dedup same ys)
    sorted_rise xs ys sorted = IsStrictlySortedBy-dedup total ties ys sorted

    pub sorted_set : (xs ys : List E) → IsPermutation xs ys → IsSorted R ys → dedup same ys ≡ with_entities R [] xs
    sorted_set xs ys moved sorted =
        same_set (dedup same ys) (with_entities R [] xs) (sorted_rise xs ys sorted) (all_rise xs [] none_rise)
        (λ q. once_in ys q ∙ moved_in q ∙ sym (with_all_in total exact xs [] q)) where
          moved_in : (q : E) → is_in R ys q ≡ (is_in R [] q || is_in R xs q)
          moved_in q = sym (list_any-IsPermutation (eq_by_cmp R q) xs ys moved)
