-- There is a string for each place with one, none is there twice, and the places rise.
use Rattle.sk_index.proofs.Names.{◌≡◌, ℕ, suc, ◌+◌, ◌<◌, List, [], ◌∷◌, length, Option, Some, None, is_some, cond}
use Rattle.sk_index.proofs.Names.{count_by, refl, sym, arith, Vec, nat_cmp_is, AllByRecursion, nat_cmp, Less}
use Rattle.sk_index.proofs.Names.{sum_by-cons, number_of, numbers_in, AreApart, numbered}
use Rattle.std.specs.List.Sorted.{IsStrictlySortedBy}
use Rattle.sk_index.proofs.Strings.{apart_later, found_slot, Apart, Slots}

pub length-numbered : (n : ℕ) (vs : List (Option (Vec ℕ))) → length (numbered n vs) ≡ count_by is_some vs
length-numbered n [] = refl
length-numbered n (None ∷ vs) =
    omega (arith, length-numbered (n + 1) vs, sum_by-cons (λ (o : Option (Vec ℕ)). cond (is_some o) 1 0) None vs)
length-numbered n (Some v ∷ vs) =
    omega (arith, length-numbered (n + 1) vs, sum_by-cons (λ (o : Option (Vec ℕ)). cond (is_some o) 1 0) (Some v) vs)

pub apart_numbered : (b : ℕ) (vs : Slots) → Apart vs → AreApart (numbered b vs)
apart_numbered b [] apart = tt
apart_numbered b (None ∷ vs) apart = apart_numbered (b + 1) vs (apart_later None vs apart)
apart_numbered b (Some v ∷ vs) apart =
    (by_number (number_of (numbered (b + 1) vs) v.items) refl, apart_numbered (b + 1) vs (apart_later (Some v) vs apart))
  where
    by_number : (o : Option ℕ) → number_of (numbered (b + 1) vs) v.items ≡ o
        → number_of (numbered (b + 1) vs) v.items ≡ None
    by_number None is = is
    by_number (Some n) is =
        let slot = found_slot (b + 1) vs v.items n is in
        let first : 0 ≡ suc slot.0 = apart 0 (suc slot.0) v slot.1 refl slot.3 slot.4 in
        absurd (omega (arith, first))

above_numbered : (n b : ℕ) (vs : Slots) → n < b → AllByRecursion (λ m. nat_cmp n m ≡ Less) (numbers_in (numbered b vs))
above_numbered n b [] below = tt
above_numbered n b (None ∷ vs) below = above_numbered n (b + 1) vs (omega (arith, below))
above_numbered n b (Some v ∷ vs) below = (sym (nat_cmp_is n b Less below), above_numbered n (b + 1) vs (omega (arith, below)))

pub rising_numbered : (b : ℕ) (vs : Slots) → IsStrictlySortedBy nat_cmp (numbers_in (numbered b vs))
unfolding IsStrictlySortedBy
rising_numbered b [] = tt
rising_numbered b (None ∷ vs) = rising_numbered (b + 1) vs
rising_numbered b (Some v ∷ vs) = (above_numbered b (b + 1) vs (omega arith), rising_numbered (b + 1) vs)
