-- A number put among numbers that rise.
use Rattle.sk_outputs.proofs.Names.{◌≡◌, ℕ, suc, ◌<◌, ◌≤◌, ◌||◌, Bool, true, false, List, ◌∷◌, length, get_or, refl}
use Rattle.sk_outputs.proofs.Names.{sym, ◌∙◌, ap, arith, ◌==◌, Ok, Err, AllByRecursion, insert, IsBinarySearchResult}
use Rattle.sk_outputs.proofs.Names.{Less, nat_cmp_is, non_decreasing_from_sorted, searched, eqb-true, has, without}
use Rattle.sk_outputs.proofs.Names.{without_none, tells}
use Rattle.std.proofs.Common.{zero, []}
use Rattle.std.specs.List.Sorted.{IsStrictlySortedBy}
use Rattle.std.specs.Ordering.{nat_cmp}

swap : (a b c : Bool) → (a || (b || c)) ≡ (b || (a || c))
swap true true c = refl
swap true false c = refl
swap false b c = refl

module _ (y : ℕ) where
  put_has : (xs : List ℕ) (i t : ℕ) → has t (insert xs i y) ≡ ((y == t) || has t xs)
  put_has [] zero t = refl
  put_has [] (suc i) t = refl
  put_has (x ∷ xs) zero t = refl
  put_has (x ∷ xs) (suc i) t = ap (λ b. (x == t) || b) (put_has xs i t) ∙ swap (x == t) (y == t) (has t xs)

  all_above : (xs : List ℕ) → ((k : ℕ) → k < length xs → y < get_or xs k 0) → AllByRecursion (λ z. nat_cmp y z ≡ Less) xs
  all_above [] h = tt
  all_above (x ∷ xs) h = (sym (nat_cmp_is y x Less (h 0 (omega arith))), all_above xs (λ k lt. h (suc k) (omega arith)))

  below_put : (x : ℕ) (xs : List ℕ) (i : ℕ) → AllByRecursion (λ z. nat_cmp x z ≡ Less) xs → x < y → AllByRecursion (λ z. nat_cmp x z ≡ Less) (insert xs i y)
  below_put x [] zero all lt = (sym (nat_cmp_is x y Less lt), tt)
  below_put x [] (suc i) all lt = (sym (nat_cmp_is x y Less lt), tt)
  below_put x (z ∷ xs) zero all lt = (sym (nat_cmp_is x y Less lt), all)
  below_put x (z ∷ xs) (suc i) all lt = (all.0, below_put x xs i all.1 lt)

  put_rises : (xs : List ℕ) (i : ℕ) → IsStrictlySortedBy nat_cmp xs → i ≤ length xs → ((k : ℕ) → k < i → get_or xs k 0 < y)
      → ((k : ℕ) → i ≤ k → k < length xs → y < get_or xs k 0) → IsStrictlySortedBy nat_cmp (insert xs i y)
  unfolding IsStrictlySortedBy
  put_rises [] zero rises le below above = (tt, tt)
  put_rises [] (suc i) rises le below above = absurd (omega arith)
  put_rises (x ∷ xs) zero rises le below above = (all_above (x ∷ xs) (λ k lt. above k (omega arith) lt), rises)
  put_rises (x ∷ xs) (suc i) rises le below above = (
    below_put x xs i rises.0 (below 0 (omega arith)),
    put_rises xs i rises.1 (omega arith) (λ k lt. below (suc k) (omega arith)) (λ k from lt. above (suc k) (omega arith) (omega arith)),
  )

module _ (y : ℕ) (xs : List ℕ) (rises : IsStrictlySortedBy nat_cmp xs) where
  up : (i j : ℕ) → i ≤ j → j < length xs → get_or xs i 0 ≤ get_or xs j 0
  up i j le lt = non_decreasing_from_sorted xs rises i j 0 le lt

  -- put where the search says, it is one of them, and they rise
  pub placed : (i : ℕ) → IsBinarySearchResult (λ x. nat_cmp x y) xs (Err i)
      → IsStrictlySortedBy nat_cmp (insert xs i y) × ((t : ℕ) → has t (insert xs i y) ≡ ((y == t) || has t xs))
  placed i h = let at = searched xs y (Err i) h up in (put_rises y xs i rises at.0 at.1 at.2, λ t. put_has y xs i t)

  -- or it is there
  pub there : (i : ℕ) → IsBinarySearchResult (λ x. nat_cmp x y) xs (Ok i) → (t : ℕ) → has t xs ≡ ((y == t) || has t xs)
  there i h t =
      let is : has y xs ≡ true = sym (tells y xs rises (Ok i) h) in
      elim (y == t) as (λ b. (y == t) ≡ b → has t xs ≡ (b || has t xs)) [
        | true ↦ λ same. ap (λ n. has n xs) (sym (eqb-true y t same)) ∙ is
        | false ↦ λ _. refl
      ] refl

  -- where it is not there, none goes
  pub nothing_goes : (i : ℕ) → IsBinarySearchResult (λ x. nat_cmp x y) xs (Err i) → xs ≡ without y xs
  nothing_goes i h = sym (without_none y xs (sym (tells y xs rises (Err i) h)))

  -- the place of one that is there
  pub place_is : (i : ℕ) → IsBinarySearchResult (λ x. nat_cmp x y) xs (Ok i) → (i < length xs) × (get_or xs i 0 ≡ y)
  place_is i h = searched xs y (Ok i) h up
