-- A rising list of all keys of a finite map is the list of its keys.
use Rattle.sk_kernel.proofs.Names.{◌≡◌, true, ◌&&◌, List, ◌∷◌, Option, Some, None, sym, ◌∙◌, ap, subst, is_some, T}
use Rattle.sk_kernel.proofs.Names.{Ordering, Less, AllByRecursion, list_any, is_lt, eq_by_cmp, IsTotalOrder, find}
use Rattle.sk_kernel.proofs.Names.{is_sorted, below_all, is_some-find, same_entries}
use Rattle.std.proofs.Common.{[], refl}
use Rattle.std.specs.Prelude.{map}
use Rattle.std.specs.List.Sorted.{IsStrictlySortedBy}
use Rattle.std.specs.FinMap as fin

-- keys alone
abbrev alone : {K : Type 0} → List K → List (K × Unit {0})
alone ks = map (λ k. (k, tt)) ks

alone_keys : {K : Type 0} (ks : List K) → map (λ e. e.0) (alone ks) ≡ ks
alone_keys [] = refl
alone_keys (k ∷ ks) = ap (λ xs. k ∷ xs) (alone_keys ks)

same_unit : (o p : Option (Unit {0})) → is_some o ≡ is_some p → o ≡ p
same_unit None None h = refl
same_unit None (Some u) h = cc
same_unit (Some u) None h = cc
same_unit (Some u) (Some v) h = refl

module _ {K : Type 0} (R : K → K → Ordering) where
  below : (k : K) (ks : List K) → AllByRecursion (λ y. R k y ≡ Less) ks → below_all R k (alone ks) ≡ true
  below k [] all = refl
  below k (x ∷ ks) all = rw (all.0, below k ks all.1) refl

  in_order : (ks : List K) → IsStrictlySortedBy R ks → is_sorted R (alone ks) ≡ true
  unfolding IsStrictlySortedBy
  in_order [] rising = refl
  in_order (k ∷ ks) rising = rw (below k ks rising.0, in_order ks rising.1) refl

  -- an order is told by the keys alone
  same_below : {X : Type 0} (k : K) (es : List (K × X)) → below_all R k (alone (map (λ e. e.0) es)) ≡ below_all R k es
  same_below k [] = refl
  same_below k (e ∷ es) = ap (λ b. is_lt (R k e.0) && b) (same_below k es)

  same_order : {X : Type 0} (es : List (K × X)) → is_sorted R (alone (map (λ e. e.0) es)) ≡ is_sorted R es
  same_order [] = refl
  same_order (e ∷ es) = λ i. same_below e.0 es i && same_order es i

  found : (ks : List K) (q : K) → is_some (find R q (alone ks)) ≡ list_any (eq_by_cmp R q) ks
  found ks q = is_some-find R q (alone ks) ∙ ap (list_any (eq_by_cmp R q)) (alone_keys ks)

-- a rising list that has what the map has is that of its keys
pub keys_are : {K X : Type 0} {R : K → K → Ordering} → IsTotalOrder R → fin.IsAntisymmetric R → (m : fin.FinMap R X) (ks : List K)
    → IsStrictlySortedBy R ks → ((q : K) → list_any (eq_by_cmp R q) ks ≡ is_some (fin.get m q)) → ks ≡ fin.keys m
keys_are {R = R} total exact m ks rising members =
    let same = same_entries R total exact (alone ks) (alone (fin.keys m)) (subst T (sym (in_order R ks rising)) tt) (subst T (sym (same_order R (fin.entries m))) (fin.entries_sorted m))
    (λ q. same_unit _ _ (found R ks q ∙ members q ∙ fin.contains_key-keys m q ∙ sym (found R (fin.keys m) q))) in
    sym (alone_keys ks) ∙ ap (map (λ e. e.0)) same ∙ alone_keys (fin.keys m)
