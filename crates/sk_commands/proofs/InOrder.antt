-- Keys in the order of their bytes, one more after another.
use Rattle.sk_commands.proofs.Names.{◌≡◌, ℕ, zero, suc, ◌+◌, ◌<◌, List, [], ◌∷◌, ◌++◌, length, map, take, get_or, refl, ap, subst}
use Rattle.sk_commands.proofs.Names.{◌∙◌, arith, by_order, Vec, vec_items, Ordering, Less, Equal, Greater}
use Rattle.sk_commands.proofs.Names.{true, false, ◌-◌, ◌≤◌, nat_lt, ltb-true, ltb-false, sorted_from_all_adjacent}
use Rattle.sk_commands.proofs.Names.{match_ordering, nat_list_cmp_total, with_known, AllByRecursion, insert_key, ordering_reverse}
use Rattle.std.specs.List.Sorted.{IsStrictlySortedBy}
use Rattle.sk_commands.proofs.Placings.{bytes_cmp, key_cmp}

-- a key comes to those of a set as it comes to known ones
by_cases : (o : Ordering) (x y z : List (Vec ℕ)) → map vec_items (match_ordering o x y z) ≡ by_order o (map vec_items x) (map vec_items y) (map vec_items z)
by_cases Less x y z = refl
by_cases Equal x y z = refl
by_cases Greater x y z = refl

pub inserted : (keys : List (Vec ℕ)) (key : Vec ℕ) → map vec_items (insert_key key_cmp keys key) ≡ with_known (map vec_items keys) key.items
inserted [] key = refl
inserted (k ∷ keys) key =
    by_cases (key_cmp key k) (key ∷ k ∷ keys) (k ∷ keys) (k ∷ insert_key key_cmp keys key)
    ∙ ap (λ r. by_order (key_cmp key k) (key.items ∷ k.items ∷ map vec_items keys) (k.items ∷ map vec_items keys) (k.items ∷ r)) (inserted keys key)

-- behind those that are less
greater : (a b : List ℕ) → bytes_cmp a b ≡ Less → bytes_cmp b a ≡ Greater
greater a b less = nat_list_cmp_total.antisymm b a ∙ ap ordering_reverse less

pub behind : (keys : List (List ℕ)) (key : List ℕ) → AllByRecursion (λ k. bytes_cmp k key ≡ Less) keys → with_known keys key ≡ keys ++ key ∷ []
behind [] key all = refl
behind (k ∷ keys) key all =
    ap (λ o. by_order o (key ∷ k ∷ keys) (k ∷ keys) (k ∷ with_known keys key)) (greater k key all.0)
    ∙ ap (λ r. k ∷ r) (behind keys key all.1)

at_place : (keys : List (List ℕ)) (x d : List ℕ) (i : ℕ) → i < length keys → AllByRecursion (λ y. bytes_cmp x y ≡ Less) keys → bytes_cmp x (get_or keys i d) ≡ Less
at_place [] x d i lt all = absurd (omega arith)
at_place (k ∷ keys) x d zero lt all = all.0
at_place (k ∷ keys) x d (suc i) lt all = at_place keys x d i (omega arith) all.1

before : (keys : List (List ℕ)) (i : ℕ) (d : List ℕ) → i < length keys → IsStrictlySortedBy bytes_cmp keys → AllByRecursion (λ k. bytes_cmp k (get_or keys i d) ≡ Less) (take i keys)
unfolding IsStrictlySortedBy
before [] i d lt rises = absurd (omega arith)
before (k ∷ keys) zero d lt rises = tt
before (k ∷ keys) (suc i) d lt rises = (at_place keys k d i (omega arith) rises.0, before keys i d (omega arith) rises.1)

-- one of the keys that rise stands behind those before it
pub next_behind : (keys : List (List ℕ)) (i : ℕ) (d : List ℕ) → i < length keys → IsStrictlySortedBy bytes_cmp keys → with_known (take i keys) (get_or keys i d) ≡ take i keys ++ get_or keys i d ∷ []
next_behind keys i d lt rises = behind (take i keys) (get_or keys i d) (before keys i d lt rises)

-- ---- whether keys rise

pub one_more : (keys : List (List ℕ)) (place : ℕ) → 1 ≤ place → ((k : ℕ) (d : List ℕ) → k + 1 < place → bytes_cmp (get_or keys k d) (get_or keys (k + 1) d) ≡ Less)
    → ((d : List ℕ) → bytes_cmp (get_or keys (place - 1) d) (get_or keys place d) ≡ Less)
    → (k : ℕ) (d : List ℕ) → k + 1 < place + 1 → bytes_cmp (get_or keys k d) (get_or keys (k + 1) d) ≡ Less
one_more keys place some so_far here k d lt =
    elim (nat_lt (k + 1) place) as (λ b. nat_lt (k + 1) place ≡ b → bytes_cmp (get_or keys k d) (get_or keys (k + 1) d) ≡ Less) [
      | true ↦ λ e. so_far k d (ltb-true (k + 1) place e)
      | false ↦ λ e.
          let not_less : place ≤ k + 1 = ltb-false (k + 1) place e in
          let at : place - 1 ≡ k = omega arith in
          let next : place ≡ k + 1 = omega arith in
          subst (λ j. bytes_cmp (get_or keys k d) (get_or keys j d) ≡ Less) next
          (subst (λ j. bytes_cmp (get_or keys j d) (get_or keys place d) ≡ Less) at (here d))
    ] refl

pub all_rise : (keys : List (List ℕ)) (place : ℕ) → length keys ≤ place → ((k : ℕ) (d : List ℕ) → k + 1 < place → bytes_cmp (get_or keys k d) (get_or keys (k + 1) d) ≡ Less)
    → IsStrictlySortedBy bytes_cmp keys
all_rise keys place all so_far = sorted_from_all_adjacent nat_list_cmp_total keys [] (λ k lt. so_far k [] (omega arith))
