-- What a binary search finds in a list of numbers that rises.
use Rattle.sk_ids.proofs.Names.{◌≡◌, ℕ, zero, suc, ◌<◌, ◌≤◌, true, false, cond, not, eqb, nat_lt, List, [], ◌∷◌, length}
use Rattle.sk_ids.proofs.Names.{arith, refl, sym, ◌∙◌, ap, subst, get_or, Result, Ok, Err, is_ok, remove, nat_cmp}
use Rattle.sk_ids.proofs.Names.{IsStrictlySortedBy, IsBinarySearchResult, IsStrictlyIncreasing-from_sorted}
use Rattle.sk_ids.proofs.Names.{AllPairs-from_increasing, searched, ltb-false, ltb-true, or_left, or_right, eq-eqb}
use Rattle.sk_ids.proofs.Names.{eqb-true, has, without}
use Rattle.sk_ids.proofs.Newest.{other, without_none}

-- a number that is there, at a place
pub found : (g : ℕ) (xs : List ℕ) (i : ℕ) → i < length xs → get_or xs i 0 ≡ g → has g xs ≡ true
found g [] i lt is = absurd (omega arith)
found g (x ∷ xs) zero lt is = or_left _ _ (eq-eqb x g is)
found g (x ∷ xs) (suc i) lt is = or_right _ _ (found g xs i (omega arith) is)

apart : (x g : ℕ) → g < x → eqb x g ≡ false
apart x g above = elim (eqb x g) as (λ b. eqb x g ≡ b → b ≡ false) [
  | true ↦ λ is. (let same : x ≡ g = eqb-true x g is in absurd (omega (same, above, arith)))
  | false ↦ λ _. refl
] refl

-- and one between two places
all_above : (g : ℕ) (xs : List ℕ) → ((k : ℕ) → k < length xs → g < get_or xs k 0) → has g xs ≡ false
all_above g [] h = refl
all_above g (x ∷ xs) h =
    let first : g < x = h 0 (omega arith) in
    let others : has g xs ≡ false = all_above g xs (λ k within. h (suc k) (omega (within, arith))) in
    rw (apart x g first, others) refl

missing : (g : ℕ) (xs : List ℕ) (i : ℕ) → ((k : ℕ) → k < i → get_or xs k 0 < g) → ((k : ℕ) → i ≤ k → k < length xs → g < get_or xs k 0) → has g xs ≡ false
missing g xs zero below above = all_above g xs (λ k within. above k (omega arith) within)
missing g [] (suc i) below above = refl
missing g (x ∷ xs) (suc i) below above =
    let first : x < g = below 0 (omega arith) in
    let others : has g xs ≡ false = missing g xs i (λ k lt. below (suc k) (omega (lt, arith))) (λ k le within. above (suc k) (omega (le, arith)) (omega (within, arith))) in
    rw (other x g first, others) refl

module _ (g : ℕ) (xs : List ℕ) (rises : IsStrictlySortedBy nat_cmp xs) where
  less : (i j : ℕ) → i < j → j < length xs → get_or xs i 0 < get_or xs j 0
  less i j lt within = AllPairs-from_increasing xs (IsStrictlyIncreasing-from_sorted xs rises) i j 0 lt within

  up : (i j : ℕ) → i ≤ j → j < length xs → get_or xs i 0 ≤ get_or xs j 0
  up i j le within =
      elim (nat_lt i j) as (λ b. nat_lt i j ≡ b → get_or xs i 0 ≤ get_or xs j 0) [
        | true ↦ λ is. (let first = less i j (ltb-true i j is) within in omega (first, arith))
        | false ↦ λ is. (let same : i ≡ j = omega (le, ltb-false i j is, arith) in subst (λ n. get_or xs i 0 ≤ get_or xs n 0) same (omega arith))
      ] refl

  -- a search tells whether the number is there
  pub tells : (r : Result ℕ ℕ) → IsBinarySearchResult (λ y. nat_cmp y g) xs r → is_ok r ≡ has g xs
  tells (Ok i) h = let at = searched xs g (Ok i) h up in sym (found g xs i at.0 at.1)
  tells (Err i) h = let at = searched xs g (Err i) h up in sym (missing g xs i at.1 at.2)

  -- taken out at its place
  pub taken_at : (i : ℕ) → i < length xs → get_or xs i 0 ≡ g → remove xs i ≡ without g xs
  taken_at i lt is = go xs i lt is less where
    go : (ys : List ℕ) (i : ℕ) → i < length ys → get_or ys i 0 ≡ g → ((i j : ℕ) → i < j → j < length ys → get_or ys i 0 < get_or ys j 0) → remove ys i ≡ without g ys
    go [] i lt is less = absurd (omega arith)
    go (y ∷ ys) zero lt is less =
        let none : has g ys ≡ false = all_above g ys (λ k within. subst (λ n. n < get_or ys k 0) is (less 0 (suc k) (omega arith) (omega (within, arith)))) in
        sym (without_none g ys none) ∙ ap (λ b. cond (not b) (y ∷ without g ys) (without g ys)) (sym (eq-eqb y g is))
    go (y ∷ ys) (suc i) lt is less =
        let first : y < g = subst (λ n. y < n) is (less 0 (suc i) (omega arith) lt) in
        ap (λ zs. y ∷ zs) (go ys i (omega (lt, arith)) is (λ a b lt within. less (suc a) (suc b) (omega (lt, arith)) (omega (within, arith))))
        ∙ ap (λ b. cond (not b) (y ∷ without g ys) (without g ys)) (sym (other y g first))
