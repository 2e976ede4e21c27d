-- What holds of all guesses of a set holds of each; what stands at the front of a list is in it; and a longer set that rises has
-- a guess that a shorter one has not.
use Rattle.sk_ids.proofs.Names.{◌≡◌, ◌≤◌, ◌<◌, ◌&&◌, ℕ, zero, suc, eqb, Bool, true, false, List, [], ◌∷◌, length, take}
use Rattle.sk_ids.proofs.Names.{inl, inr, refl, sym, ◌∙◌, ap, subst, arith, nat_cmp, list_all, or_cases, or_left}
use Rattle.sk_ids.proofs.Names.{or_right, eqb-true, eq-eqb, has, and_both, above}
use Rattle.std.specs.List.Sorted.{IsStrictlySortedBy}
use Rattle.std.proofs.lemmas.Bool.{true≢false}
use Rattle.sk_ids.specs.SameLemma.{exact_bytes}
use Rattle.sk_ids.proofs.tags.TagSet.covers.Goals as goal

all_at : (p : ℕ → Bool) (g : ℕ) (xs : List ℕ) → list_all p xs ≡ true → has g xs ≡ true → p g ≡ true
all_at p g [] all here = absurd (true≢false (sym here))
all_at p g (x ∷ xs) all here =
    let both = and_both _ _ all in
    elim (or_cases _ _ here) [
      | inl same ↦ subst (λ y. p y ≡ true) (eqb-true x g same) both.0
      | inr later ↦ all_at p g xs both.1 later
    ]

both_true : (a b : Bool) → a ≡ true → b ≡ true → (a && b) ≡ true
both_true true b one other = other
both_true false b one other = absurd (true≢false (sym one))

all_from : (p : ℕ → Bool) (xs : List ℕ) → ((g : ℕ) → has g xs ≡ true → p g ≡ true) → list_all p xs ≡ true
all_from p [] each = refl
all_from p (x ∷ xs) each =
    both_true (p x) (list_all p xs) (each x (or_left (eqb x x) (has x xs) (eq-eqb x x refl)))
    (all_from p xs (λ g later. each g (or_right (eqb x g) (has g xs) later)))

front_has : (g n : ℕ) (xs : List ℕ) → has g (take n xs) ≡ true → has g xs ≡ true
front_has g zero xs here = absurd (true≢false (sym here))
front_has g (suc n) [] here = here
front_has g (suc n) (x ∷ xs) here =
    elim (or_cases (eqb x g) (has g (take n xs)) here) [ inl first ↦ or_left (eqb x g) (has g xs) first | inr later ↦ or_right (eqb x g) (has g xs) (front_has g n xs later) ]

no_longer : (xs ys : List ℕ) → IsStrictlySortedBy nat_cmp xs → IsStrictlySortedBy nat_cmp ys → ((g : ℕ) → has g xs ≡ true → has g ys ≡ true) → length xs ≤ length ys
unfolding IsStrictlySortedBy
no_longer [] ys s t each = omega arith
no_longer (x ∷ xs) [] s t each = absurd (true≢false (sym (each x (or_left (eqb x x) (has x xs) (eq-eqb x x refl)))))
no_longer (x ∷ xs) (y ∷ ys) s t each =
    let least : y ≤ x = elim (or_cases (eqb y x) (has x ys) (each x (or_left (eqb x x) (has x xs) (eq-eqb x x refl)))) [
      | inl same ↦ (let is : y ≡ x = eqb-true y x same in omega (arith, is))
      | inr later ↦ (let lt : y < x = above y ys x t.0 later in omega (arith, lt))
    ] in
    let rest : length xs ≤ length ys = no_longer xs ys s.1 t.1 (λ g later.
    let more : x < g = above x xs g s.0 later in
    elim (or_cases (eqb y g) (has g ys) (each g (or_right (eqb x g) (has g xs) later))) [
      | inl same ↦ (let is : y ≡ g = eqb-true y g same in absurd (omega (arith, is, least, more)))
      | inr there ↦ there
    ]) in
    omega (arith, rest)

pub returns-then-others-ids : goal.returns-then-others-ids
returns-then-others-ids c = (
  λ is. absurd (true≢false (sym is)),
  λ each.
      let ids_are = c.as_slice-ids.ensures ∙ c.self.view_is in
      let others_are = c.as_slice-others.ensures ∙ c.other.view_is in
      let shorter = no_longer c.args.other.now c.args.self.now
      (subst (IsStrictlySortedBy nat_cmp) c.other.view_is c.other.invariant) (subst (IsStrictlySortedBy nat_cmp) c.self.view_is c.self.invariant) each in
      let ids_long = ap length ids_are in
      let others_long = ap length others_are in
      let longer = c.if-others-ids.true in
      absurd (omega (arith, shorter, ids_long, others_long, longer)),
)

pub returns-then-starts_with : goal.returns-then-starts_with
returns-then-starts_with c = (
  λ _ id here.
      let ids = c.as_slice-ids.result.now in
      let others = c.as_slice-others.result.now in
      let front = (exact_bytes others (take (length others) ids)).0 (sym c.starts_with.ensures.value ∙ c.if-starts_with.true) in
      let there = ap (has id) (sym front ∙ c.as_slice-others.ensures ∙ c.other.view_is) ∙ here in
      ap (has id) (sym (c.as_slice-ids.ensures ∙ c.self.view_is)) ∙ front_has id (length others) ids there,
  λ each. refl,
)

pub returns : goal.returns
returns c =
    let all : ℕ → Bool = λ id. has id c.args.self.now in (
      λ is id here. all_at all id c.args.other.now (sym c.has_all.ensures ∙ is) here,
      λ each. c.has_all.ensures ∙ all_from all c.args.other.now each,
    )
