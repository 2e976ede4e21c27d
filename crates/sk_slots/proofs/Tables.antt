-- The entries of a table, which are found by a test of equality, and the finite map that they make in an order of their keys.
use Rattle.sk_slots.proofs.Names.{◌≡◌, ◌||◌, Bool, true, false, cond, List, [], ◌∷◌, Option, Some, None, refl, sym, ap, subst, ◌∙◌, ℕ}
use Rattle.sk_slots.proofs.Names.{Ordering, IsTotalOrder, IsAntisymmetric, eq_by_cmp, get, insert, remove, is_some, is_in}
use Rattle.sk_ids.proofs.Views.{one_given, one_removed, get_at}
use Rattle.sk_slots.proofs.Names.{option_copied_mut, Equal-is, true≢false, same_Some}
use Rattle.std.specs.BTreeMap.{is_at}
use Rattle.std.specs.Borrow.{MutBor}
use Rattle.std.specs.FinMap.{from_entries}
use Rattle.std.specs.Map.{keys_of, lookup}
use Rattle.std.specs.Ordering.{is_eq}
use Rattle.std.proofs.lemmas.Option.{slice_get-map}
use Rattle.std.specs.Option.{option_map}
use Rattle.std.specs.Prelude.{IsSome, OnSome, slice_get}

-- keys that are equal tie
abbrev pub Ties : {K : Type 0} → (K → K → Bool) → (K → K → Ordering) → Type 0
Ties {K} E C = (x y : K) → E x y ≡ is_eq (C x y)

module _ {K : Type 0} {E : K → K → Bool} {C R : K → K → Ordering} (ties : Ties E C) (same : C ≡ R) where
  -- the tests are one
  pub tests : E ≡ (λ x. is_at (C x))
  tests i x y = ties x y i

  pub tests_in : E ≡ eq_by_cmp R
  tests_in = tests ∙ (λ i x y. is_eq (same i x y))

module _ {K X : Type 0} {E : K → K → Bool} {C R : K → K → Ordering} (ties : Ties E C) (same : C ≡ R) (total : IsTotalOrder R) where
  -- what is found by the test is what the map has
  pub found_by : (es : List (K × X)) (q : K) → get (from_entries {R = R} es) q ≡ lookup (E q) es
  found_by es q = get_at same total es q ∙ ap (λ (T : K → K → Bool). lookup (T q) es) (sym (tests ties same))

  module _ (exact : IsAntisymmetric R) where
    pub given_by : (es fs : List (K × X)) (k : K) (v : X) → ((q : K) → lookup (E q) fs ≡ cond (E k q) (Some v) (lookup (E q) es)) → from_entries {R = R} fs ≡ insert (from_entries es) k v
    given_by es fs k v h = one_given same total exact es fs k v
        (subst (λ (T : K → K → Bool). (q : K) → lookup (T q) fs ≡ cond (T k q) (Some v) (lookup (T q) es)) (tests ties same) h)

    pub removed_by : (es fs : List (K × X)) (k : K) → ((q : K) → lookup (E q) fs ≡ cond (E k q) None (lookup (E q) es)) → from_entries {R = R} fs ≡ remove (from_entries es) k
    removed_by es fs k h = one_removed same total exact es fs k
        (subst (λ (T : K → K → Bool). (q : K) → lookup (T q) fs ≡ cond (T k q) None (lookup (T q) es)) (tests ties same) h)

  -- a key is among those of the entries where it is found
  pub among_found : (es : List (K × X)) (q : K) → is_in R (keys_of es) q ≡ is_some (get (from_entries {R = R} es) q)
  among_found es q = among es ∙ ap is_some (ap (λ (T : K → K → Bool). lookup (T q) es) (sym (tests_in ties same)) ∙ sym (found_by es q))
    where
      among : (fs : List (K × X)) → is_in R (keys_of fs) q ≡ is_some (lookup (eq_by_cmp R q) fs)
      among [] = refl
      among (f ∷ fs) =
          ap (λ b. eq_by_cmp R q f.0 || b) (among fs)
          ∙ elim (eq_by_cmp R q f.0) as (λ b. (b || is_some (lookup (eq_by_cmp R q) fs)) ≡ is_some (cond b (Some f.1) (lookup (eq_by_cmp R q) fs))) [ true ↦ refl | false ↦ refl ]

-- what holds of what is lent where something is found
pub on_lent : {X : Type 0} (P : Type 0) (r : Option (MutBor X)) (o : Option X) → option_copied_mut r ≡ o → (IsSome o → P) → OnSome r P
on_lent P None o e f = tt
on_lent P (Some x) o e f = f (subst IsSome e refl)

-- keys that are equal are one
pub same_key : {K : Type 0} {E : K → K → Bool} {C : K → K → Ordering} → Ties E C → IsAntisymmetric C → (x y : K) → E x y ≡ true → x ≡ y
same_key {C = C} ties exact x y is = exact x y ((Equal-is (C x y)).0 (sym (ties x y) ∙ is))

-- what is at a place, where its key is
pub pair_there : {K X : Type 0} (es : List (K × X)) (i : ℕ) (k : K) → slice_get (keys_of es) i ≡ Some k → (x : X) × (slice_get es i ≡ Some (k, x))
pair_there {K} {X} es i k at = by (slice_get es i) refl
  where
    by : (r : Option (K × X)) → slice_get es i ≡ r → (x : X) × (slice_get es i ≡ Some (k, x))
    by None e = absurd (true≢false (sym (ap is_some (sym (ap (option_map (λ p. p.0)) e) ∙ sym (slice_get-map (λ p. p.0) es i) ∙ at))))
    by (Some p) e =
        let same = same_Some p.0 k (sym (ap (option_map (λ p. p.0)) e) ∙ sym (slice_get-map (λ p. p.0) es i) ∙ at) in
        (p.1, e ∙ ap (λ q. Some (q, p.1)) same)
