-- What follows of keys: their test of equality is exact, and what is known in the order that the code computes is known in that of specs/.
use Rattle.sk_map.proofs.Names.{◌≡◌, Bool, List, sym, subst, ◌∙◌, is_eq, Ordering, IsStrictlySortedBy, IsTotalOrder}
use Rattle.sk_map.proofs.Names.{Option, Some, None, IsSome, refl, ap, false, true≢false, Greater, is_lt, ordering_reverse}
use Rattle.sk_map.proofs.Names.{Equal-is, eq_by_cmp_equiv, IsAntisymmetric, IsExact, exact_from}

pub rising : {K : Type 0} {C R : K → K → Ordering} → C ≡ R → (ks : List K) → IsStrictlySortedBy C ks → IsStrictlySortedBy R ks
rising same ks = subst (λ S. IsStrictlySortedBy S ks) same

pub exact_key : {K : Type 0} {C : K → K → Ordering} {E : K → K → Bool} → IsTotalOrder C → IsAntisymmetric C → ((x y : K) → E x y ≡ is_eq (C x y)) → IsExact E
exact_key {C = C} {E = E} total exact ties =
    exact_from E (λ x. ties x x ∙ (eq_by_cmp_equiv total).refl x) (λ x y h. exact x y ((Equal-is (C x y)).0 (sym (ties x y) ∙ h)))

-- what is behind a bound of all keys is absent
pub behind : {K X : Type 0} {C : K → K → Ordering} → IsTotalOrder C → (k last : K) (o : Option X) → C k last ≡ Greater → (IsSome o → is_lt (C last k) ≡ false) → None ≡ o
behind total k last None after bound = refl
behind total k last (Some v) after bound = absurd (true≢false (sym (ap is_lt (total.antisymm last k ∙ ap ordering_reverse after)) ∙ bound refl))
