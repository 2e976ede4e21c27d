-- Lists of guesses that rise: what a sort without repeats leaves of them.
use Rattle.std.specs.Prelude.{slice_index}
use Rattle.sk_ids.proofs.Names.{◌≡◌, ◌<◌, ◌+◌, ℕ, zero, suc, length}
use Rattle.sk_ids.proofs.Names.{◌||◌, eqb, List, [], ◌∷◌, ◌++◌, arith, refl, sym, ◌∙◌, nat_cmp, both_ways}
use Rattle.sk_ids.proofs.Names.{nat_eq_equiv, list_any, dedup, IsStrictlySortedBy, IsPermutation}
use Rattle.sk_ids.proofs.Names.{sorted_from_strictly_increasing, list_any-from_Contains, Contains-from_any}
use Rattle.sk_ids.proofs.Names.{list_any-append, list_any-IsPermutation, Contains-dedup_nat, Contains-from_dedup}
use Rattle.sk_ids.proofs.Names.{eqb-true, eq-eqb, has}

pub rising_none : IsStrictlySortedBy nat_cmp []
rising_none = sorted_from_strictly_increasing [] (λ k h. absurd (omega arith))

pub rising_one : (x : ℕ) → IsStrictlySortedBy nat_cmp (x ∷ [])
rising_one x = sorted_from_strictly_increasing (x ∷ []) (λ k h. absurd (omega arith))

pub rising_two : (x y : ℕ) → x < y → IsStrictlySortedBy nat_cmp (x ∷ y ∷ [])
rising_two x y less = sorted_from_strictly_increasing (x ∷ y ∷ []) next where
  next : (k : ℕ) → k + 1 < length (x ∷ y ∷ []) → slice_index (x ∷ y ∷ []) k < slice_index (x ∷ y ∷ []) (k + 1)
  next zero h = less
  next (suc k) h = absurd (omega arith)

-- a list without repeats has the same members
any_deduped : (q : ℕ) (xs : List ℕ) → list_any (eqb q) (dedup eqb xs) ≡ list_any (eqb q) xs
any_deduped q xs = both_ways _ _
    (λ e. list_any-from_Contains nat_eq_equiv q xs (Contains-from_dedup eqb xs q (Contains-from_any eqb-true q (dedup eqb xs) e)))
    (λ e. list_any-from_Contains nat_eq_equiv q (dedup eqb xs) (Contains-dedup_nat xs q (Contains-from_any eqb-true q xs e)))

same_test : (x q : ℕ) → eqb x q ≡ eqb q x
same_test x q = both_ways _ _ (λ e. eq-eqb q x (sym (eqb-true x q e))) (λ e. eq-eqb x q (sym (eqb-true q x e)))

turned : (q : ℕ) (xs : List ℕ) → has q xs ≡ list_any (eqb q) xs
turned q [] = refl
turned q (x ∷ xs) = rw (same_test x q, turned q xs)

-- two lists joined, put in another order, each number once: the members of either
pub has-dedup : (xs ys zs : List ℕ) → IsPermutation (xs ++ ys) zs → (q : ℕ) → has q (dedup eqb zs) ≡ (has q xs || has q ys)
has-dedup xs ys zs p q =
    turned q (dedup eqb zs) ∙ any_deduped q zs ∙ sym (list_any-IsPermutation (eqb q) (xs ++ ys) zs p) ∙ list_any-append (eqb q) xs ys
    ∙ rw (turned q xs, turned q ys)
