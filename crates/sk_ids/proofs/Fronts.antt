-- What is left of a list whose first elements have gone, where one more goes.
use Rattle.sk_ids.proofs.Names.{◌≡◌, ℕ, zero, suc, ◌+◌, ◌<◌, List, [], ◌∷◌, length, arith, refl, subst, remove}
use Rattle.sk_ids.proofs.Names.{length-drop}
use Rattle.std.specs.Prelude.{drop}

front_at : (n : ℕ) (xs : List ℕ) → n < length xs → drop (suc n) xs ≡ remove (drop n xs) 0
front_at zero [] lt = absurd (omega (lt, arith))
front_at zero (x ∷ xs) lt = refl
front_at (suc n) [] lt = absurd (omega (lt, arith))
front_at (suc n) (x ∷ xs) lt = front_at n xs (omega (lt, arith))

pub front_gone : (n : ℕ) (xs : List ℕ) → n < length xs → drop (n + 1) xs ≡ remove (drop n xs) 0
front_gone n xs lt = (let same : suc n ≡ n + 1 = omega arith in subst (λ m. drop m xs ≡ remove (drop n xs) 0) same (front_at n xs lt))

abbrev plus : ℕ → ℕ → ℕ
plus zero i = i
plus (suc n) i = suc (plus n i)

plus_is : (n i : ℕ) → plus n i ≡ n + i
plus_is zero i = omega arith
plus_is (suc n) i = (let before = plus_is n i in omega (before, arith))

removed_at : (n i : ℕ) (xs : List ℕ) → drop n (remove xs (plus n i)) ≡ remove (drop n xs) i
removed_at zero i xs = refl
removed_at (suc n) zero [] = refl
removed_at (suc n) (suc i) [] = refl
removed_at (suc n) i (x ∷ xs) = removed_at n i xs

pub removed : (n i : ℕ) (xs : List ℕ) → drop n (remove xs (n + i)) ≡ remove (drop n xs) i
removed n i xs = subst (λ k. drop n (remove xs k) ≡ remove (drop n xs) i) (plus_is n i) (removed_at n i xs)

-- a place behind those that have gone is in the list
pub behind : (n i : ℕ) (xs : List ℕ) → i < length (drop n xs) → n + i < length xs
behind n i xs lt = (let left = length-drop n xs in omega (lt, left, arith))
