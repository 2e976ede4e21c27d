-- A `BTreeMap`'s entries as a finite map. C is the order as the code computes it, and R as specs/ writes it.
use Rattle.sk_ids.proofs.Names.{◌≡◌, cond, List, [], ◌∷◌, Some, None, refl, sym, ◌∙◌, ap, Ordering, eq_by_cmp}
use Rattle.sk_ids.proofs.Names.{IsTotalOrder, eq_by_cmp_equiv, is_at, lookup, find, get, insert, from_entries}
use Rattle.sk_ids.proofs.Names.{get-from_entries, get-insert, get-remove, IsAntisymmetric}
use Rattle.std.specs.FinMap.{remove, same_map}

tied : {K : Type 0} {R C : K → K → Ordering} → C ≡ R → IsTotalOrder R → (k q : K) → is_at (C k) q ≡ eq_by_cmp R q k
tied {K} {R} {C} same total k q = ap (λ (S : K → K → Ordering). is_at (S k) q) same ∙ (eq_by_cmp_equiv total).symm k q

module _ {K X : Type 0} {R C : K → K → Ordering} (same : C ≡ R) (total : IsTotalOrder R) where
  find_at : (es : List (K × X)) (q : K) → find R q es ≡ lookup (is_at (R q)) es
  find_at [] q = refl
  find_at (e ∷ es) q = ap (cond (is_at (R q) e.0) (Some e.1)) (find_at es q)

  -- what the map that the entries make has at a key
  pub get_at : (es : List (K × X)) (q : K) → get (from_entries {R = R} es) q ≡ lookup (is_at (C q)) es
  get_at es q = get-from_entries total es q ∙ find_at es q ∙ ap (λ (S : K → K → Ordering). lookup (is_at (S q)) es) (sym same)

  module _ (exact : IsAntisymmetric R) where
    -- entries that differ at one key make maps that differ there
    pub one_given : (es fs : List (K × X)) (k : K) (v : X) → ((q : K) → lookup (is_at (C q)) fs ≡ cond (is_at (C k) q) (Some v) (lookup (is_at (C q)) es)) → from_entries {R = R} fs ≡ insert (from_entries es) k v
    one_given es fs k v h = same_map total exact _ _ (λ q.
        get_at fs q ∙ h q ∙ ap (λ b. cond b (Some v) (lookup (is_at (C q)) es)) (tied same total k q)
        ∙ sym (get-insert total (from_entries es) k v q ∙ ap (cond (eq_by_cmp R q k) (Some v)) (get_at es q)))

    pub one_removed : (es fs : List (K × X)) (k : K) → ((q : K) → lookup (is_at (C q)) fs ≡ cond (is_at (C k) q) None (lookup (is_at (C q)) es)) → from_entries {R = R} fs ≡ remove (from_entries es) k
    one_removed es fs k h = same_map total exact _ _ (λ q.
        get_at fs q ∙ h q ∙ ap (λ b. cond b None (lookup (is_at (C q)) es)) (tied same total k q)
        ∙ sym (get-remove total (from_entries es) k q ∙ ap (cond (eq_by_cmp R q k) None) (get_at es q)))
