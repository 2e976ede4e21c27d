-- A list of numbers that rise has no number above its last, and is left as it is without one that it does not have.
use Rattle.sk_ids.proofs.Names.{◌≡◌, ℕ, suc, ◌-◌, ◌<◌, ◌≤◌, true, false, not, cond, ◌||◌, eqb, nat_lt, List, [], ◌∷◌}
use Rattle.sk_ids.proofs.Names.{length, slice_index_or, arith, inl, inr, refl, subst, sym, ap, nat_cmp}
use Rattle.sk_ids.proofs.Names.{IsStrictlyIncreasing-from_sorted, AllPairs-from_increasing, eqb-true, ltb-false}
use Rattle.sk_ids.proofs.Names.{ltb-true, or_cases, has, without, above}
use Rattle.std.specs.List.Sorted.{IsStrictlySortedBy}

pub other : (x g : ℕ) → x < g → eqb x g ≡ false
other x g below = elim (eqb x g) as (λ b. eqb x g ≡ b → b ≡ false) [
  | true ↦ λ is. (let same : x ≡ g = eqb-true x g is in absurd (omega (same, below, arith)))
  | false ↦ λ _. refl
] refl

all_below : (g d : ℕ) (xs : List ℕ) → ((j : ℕ) → j < length xs → slice_index_or xs j d < g) → has g xs ≡ false
all_below g d [] h = refl
all_below g d (x ∷ xs) h =
    let first : x < g = h 0 (omega arith) in
    let others : has g xs ≡ false = all_below g d xs (λ j within. h (suc j) (omega (within, arith))) in
    rw (other x g first, others) refl

pub none_above : (g last : ℕ) (xs : List ℕ) → IsStrictlySortedBy nat_cmp xs → 1 ≤ length xs
    → last ≡ slice_index_or xs (length xs - 1) last → last < g → has g xs ≡ false
none_above g last xs rises some is above = all_below g last xs (λ j within.
    elim (nat_lt j (length xs - 1)) as (λ b. nat_lt j (length xs - 1) ≡ b → slice_index_or xs j last < g) [
      | true ↦ λ before.
          let early : slice_index_or xs j last < slice_index_or xs (length xs - 1) last =
          AllPairs-from_increasing xs (IsStrictlyIncreasing-from_sorted xs rises) j (length xs - 1) last (omega (ltb-true j (length xs - 1) before, arith)) (omega (some, arith)) in
          omega (early, is, above, arith)
      | false ↦ λ behind.
          let late : length xs - 1 ≤ j = ltb-false j (length xs - 1) behind in
          let here : j ≡ length xs - 1 = omega (late, within, some, arith) in
          subst (λ n. slice_index_or xs n last < g) (sym here) (omega (is, above, arith))
    ] refl)

-- nor one below its first
pub none_below : (g first : ℕ) (xs : List ℕ) → IsStrictlySortedBy nat_cmp xs → 1 ≤ length xs → first ≡ slice_index_or xs 0 first → g < first → has g xs ≡ false
unfolding IsStrictlySortedBy
none_below g first [] rises some is below = refl
none_below g first (x ∷ xs) rises some is below =
    elim (has g (x ∷ xs)) as (λ b. has g (x ∷ xs) ≡ b → b ≡ false) [
      | true ↦ λ here. elim (or_cases (eqb x g) (has g xs) here) [
        | inl same ↦ (let at : x ≡ g = eqb-true x g same in absurd (omega (at, is, below, arith)))
        | inr later ↦ (let behind : x < g = above x xs g rises.0 later in absurd (omega (behind, is, below, arith)))
      ]
      | false ↦ λ _. refl
    ] refl

pub without_none : (g : ℕ) (xs : List ℕ) → has g xs ≡ false → without g xs ≡ xs
without_none g [] none = refl
without_none g (x ∷ xs) none =
    elim (eqb x g) as (λ b. (b || has g xs) ≡ false → cond (not b) (x ∷ without g xs) (without g xs) ≡ x ∷ xs) [
      | true ↦ λ is. cc
      | false ↦ λ is. ap (λ ys. x ∷ ys) (without_none g xs is)
    ] none
