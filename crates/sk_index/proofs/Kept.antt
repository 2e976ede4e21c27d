-- What an index keeps holds after one string more, and after one less.
use Rattle.sk_index.proofs.Names.{same_Some, ◌≡◌, ◌≢◌, ℕ, zero, suc, ◌<◌, ◌≤◌, ◌^◌, true, false, ltb, List, [], ◌∷◌}
use Rattle.sk_index.proofs.Names.{Some, None, cond, refl, sym, ap, ◌∙◌, subst, arith, ◌||◌, ◌&&◌, not, Bool, filter}
use Rattle.sk_index.proofs.Names.{list_any, nat_cmp, ordering_then, is_eq, is_le, is_lt, nat_cmp_is, Included}
use Rattle.sk_index.proofs.Names.{range_contains, Ordering, Less, Equal, Greater, is_at, Vec, ltb-true, ltb-false}
use Rattle.sk_index.proofs.Names.{exact_unsigned, exact_pairs, Slab, get, Updates, number_of, Adds, Removes, numbered}
use Rattle.sk_index.proofs.Names.{place_cmp, IsIndex}
use Rattle.sk_index.proofs.Strings as strings

equal_of : (o : Ordering) → is_eq o ≡ true → o ≡ Equal
equal_of Equal is = refl
equal_of s is = absurd (cc)

pub exact_place : (p q : ℕ × ℕ) → is_at (place_cmp p) q ≡ true → p ≡ q
exact_place p q is = exact_pairs nat_cmp nat_cmp exact_unsigned exact_unsigned p q (equal_of (place_cmp p q) is)

pub still_true : (b x : Bool) → x ≡ true → cond b true x ≡ true
still_true true x is = refl
still_true false x is = is

module _ (hash : List ℕ → ℕ) (old : Slab (Vec ℕ)) (under : ℕ × ℕ → Bool) (is : IsIndex hash old under) where
  module _ (mid new : Slab (Vec ℕ)) (more : ℕ × ℕ → Bool) (k : ℕ) (v : Vec ℕ) (kept : mid.slots ≡ old.slots)
      (was : get mid k ≡ None) (updates : Updates mid new k (Some v))
      (key : ℕ × ℕ) (is_key : key ≡ (hash v.items, k)) (put : more key ≡ true)
      (stays : (q : ℕ × ℕ) → under q ≡ true → more q ≡ true)
      (fits : k < 2 ^ 64) (none : number_of (numbered 0 old.slots) v.items ≡ None) where
    was_none : strings.at old.slots k ≡ None
    was_none = ap (λ vs. strings.at vs k) (sym kept) ∙ was

    others : (m : ℕ) → m ≢ k → strings.at new.slots m ≡ strings.at old.slots m
    others m other = updates.others m other ∙ ap (λ vs. strings.at vs m) kept

    pub adds : Adds (numbered 0 old.slots) v.items k (numbered 0 new.slots)
    adds = strings.adds old.slots new.slots k others is.apart v was_none updates.changed none

    there : (w : Vec ℕ) → get new k ≡ Some w → w ≡ v
    there w gets = same_Some w v (sym gets ∙ updates.changed)

    pub added : IsIndex hash new more
    added = record {
      apart = strings.added_apart old.slots new.slots k others is.apart v was_none updates.changed none;
      found = λ n w gets.
          strings.elsewhere n k
          (λ here.
          let same : w ≡ v = there w (ap (get new) (sym here) ∙ gets) in
          let at : key ≡ (hash w.items, n) =
          is_key ∙ (λ i. (ap (λ (x : Vec ℕ). hash x.items) (sym same) i, sym here i)) in
          subst (λ q. more q ≡ true) at put)
          (λ other. stays (hash w.items, n) (is.found n w (sym (others n other) ∙ gets)));
      small = λ n w gets.
          strings.elsewhere n k (λ here. subst (λ m. m < 2 ^ 64) (sym here) fits)
          (λ other. is.small n w (sym (others n other) ∙ gets));
    }

  module _ (new : Slab (Vec ℕ)) (less : ℕ × ℕ → Bool) (k : ℕ) (v : Vec ℕ) (was : get old k ≡ Some v)
      (updates : Updates old new k None)
      (key : ℕ × ℕ) (is_key : key ≡ (hash v.items, k))
      (gone : (q : ℕ × ℕ) → (q ≡ key → ⊥) → under q ≡ true → less q ≡ true) where
    pub removes : Removes (numbered 0 old.slots) v.items k (numbered 0 new.slots)
    removes = strings.removes old.slots new.slots k updates.others is.apart v was updates.changed

    before : (n : ℕ) (w : Vec ℕ) → get new n ≡ Some w → (n ≢ k) × (get old n ≡ Some w)
    before n w gets =
        let other : n ≢ k = λ same. strings.some_none w (sym gets ∙ ap (get new) same ∙ updates.changed) in
        (other, sym (updates.others n other) ∙ gets)

    pub removed : IsIndex hash new less
    removed = record {
      apart = strings.removed_apart old.slots new.slots k updates.others is.apart v was updates.changed;
      found = λ n w gets.
          let had = before n w gets in
          gone (hash w.items, n) (λ same. had.0 (ap (λ (q : ℕ × ℕ). q.1) (same ∙ is_key))) (is.found n w had.1);
      small = λ n w gets. is.small n w (before n w gets).1;
    }

-- ---- what a look-up goes through

-- what passes both tests is among those that pass the second
pub in_filter : {A : Type 0} (p q : A → Bool) → ((x : A) → p x ≡ true → q x ≡ true) → (xs : List A) → list_any p xs
    ≡ true → list_any p (filter q xs) ≡ true
in_filter p q both [] any = any
in_filter {A} p q both (x ∷ xs) any =
    elim (q x) as (λ c. q x ≡ c → list_any p (cond c (x ∷ filter q xs) (filter q xs)) ≡ true) [
      | true ↦ λ passes. first (p x) (list_any p xs) any (in_filter p q both xs)
      | false ↦ λ fails. in_filter p q both xs
          (second (p x) (list_any p xs) (λ here. strings.true_false (sym (both x here) ∙ fails)) any)
    ] refl
  where
    first : {b : Bool} (here later : Bool) → here || later ≡ true → (later ≡ true → b ≡ true) → here || b ≡ true
    first true later any more = refl
    first false later any more = more any

    second : (here later : Bool) → (here ≡ true → later ≡ true) → here || later ≡ true → later ≡ true
    second true later hence any = hence refl
    second false later hence any = any

from_zero : (n : ℕ) → is_le (nat_cmp 0 n) ≡ true
from_zero zero = ap is_le (sym (nat_cmp_is 0 0 Equal refl))
from_zero (suc n) = let less : 0 < suc n = omega arith in ap is_le (sym (nat_cmp_is 0 (suc n) Less less))

up_to : (m n : ℕ) → n ≤ m → is_lt (nat_cmp m n) ≡ false
up_to m n le =
    elim (ltb n m) as (λ b. ltb n m ≡ b → is_lt (nat_cmp m n) ≡ false) [
      | true ↦ λ is. ap is_lt (sym (nat_cmp_is m n Greater (ltb-true n m is)))
      | false ↦ λ is.
          let more : m ≤ n = ltb-false n m is in
          let same : m ≡ n = omega (arith, le, more) in
          ap is_lt (sym (nat_cmp_is m n Equal same))
    ] refl

between : (h n m : ℕ) → n ≤ m → range_contains place_cmp (Included (h, 0)) (Included (h, m)) (h, n) ≡ true
between h n m le =
    ap (λ o. is_le (ordering_then o (nat_cmp 0 n)) && not (is_lt (ordering_then o (nat_cmp m n))))
    (sym (nat_cmp_is h h Equal refl))
    ∙ ap (λ b. b && not (is_lt (nat_cmp m n))) (from_zero n)
    ∙ ap not (up_to m n le)

-- a place with this hash is among those that are gone through
pub looked : (h n m : ℕ) (keys : List (ℕ × ℕ)) → n ≤ m → list_any (is_at (place_cmp (h, n))) keys ≡ true
    → list_any (is_at (place_cmp (h, n))) (filter (range_contains place_cmp (Included (h, 0)) (Included (h, m))) keys)
    ≡ true
looked h n m keys le any =
    in_filter (is_at (place_cmp (h, n))) (range_contains place_cmp (Included (h, 0)) (Included (h, m)))
    (λ x here. subst (λ q. range_contains place_cmp (Included (h, 0)) (Included (h, m)) q ≡ true)
    (exact_place (h, n) x here) (between h n m le)) keys any
