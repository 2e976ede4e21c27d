-- No directory has more names than there are names of directories.
use Rattle.sk_undo.proofs.Cites.{◌≡◌, ◌≤◌, ℕ, zero, suc, ◌-◌, true, false, not, cond, ◌&&◌, ◌||◌, List, [], ◌∷◌}
use Rattle.sk_undo.proofs.Cites.{Bool, refl, sym, ◌∙◌, ap, arith, is_some, eq_by_cmp, is_eq, ordering_then}
use Rattle.sk_undo.proofs.Cites.{IsTotalOrder, eq_by_cmp_equiv, tied_itself, nat_list_cmp_total, None, list_any}
use Rattle.sk_undo.proofs.Cites.{FinSet, contains, items, len, empty, contains-items, contains-empty, contains-remove}
use Rattle.sk_undo.proofs.Cites.{len-empty, len-remove, same_set, true≢false, name_order, ObjId, Obj, entity_total}
use Rattle.std.specs.FinMap as fin
use Rattle.std.specs.FinMap.{FinMap}
use Rattle.std.specs.FinSet.{remove}
use Rattle.std.proofs.lemmas.Map.Lookups.{exact_bytes}
use Rattle.sk_undo.specs.Kinds.{link_cmp}
use Rattle.sk_undo.specs.declared.keys.LinkKey.{LinkKey}
use Rattle.sk_undo.proofs.ByKind.{link_total}

names_total : IsTotalOrder name_order
names_total = nat_list_cmp_total

split : (a b : Bool) → (not a && b) ≡ true → (a ≡ false) × (b ≡ true)
split true b h = absurd (true≢false (sym h))
split false b h = (refl, h)

abbrev at : ObjId → List ℕ → LinkKey
at d q = record { directory = d; name = q }

alike : (d : ObjId) (q n : List ℕ) → eq_by_cmp link_cmp (at d q) (at d n) ≡ eq_by_cmp name_order q n
alike d q n = ap (λ r. is_eq (ordering_then r (name_order q n))) (tied_itself entity_total (Obj d))

some_name : (s : FinSet name_order) (n : ℕ) → len s ≡ suc n → (k : List ℕ) × (contains s k ≡ true)
some_name s n is =
    elim (items s) as (λ (ks : List (List ℕ)). items s ≡ ks → (k : List ℕ) × (contains s k ≡ true)) [
      | [] ↦ λ none.
          let all : s ≡ empty = same_set names_total exact_bytes s empty (λ q. contains-items s q ∙ ap (list_any (eq_by_cmp name_order q)) none ∙ sym (contains-empty name_order q)) in
          let zero_long : len s ≡ 0 = ap len all ∙ len-empty name_order in
          absurd (omega (arith, is, zero_long))
      | k ∷ ks ↦ λ some. (k, contains-items s k ∙ ap (list_any (eq_by_cmp name_order k)) some ∙ ap (λ b. b || list_any (eq_by_cmp name_order k) ks) ((eq_by_cmp_equiv names_total).refl k))
    ] refl

module _ {V : Type 0} where
  has_one : (m : FinMap link_cmp V) (e : LinkKey) → fin.contains_key m e ≡ true → 1 ≤ fin.len m
  has_one m e there =
      elim (fin.len m) as (λ n. fin.len m ≡ n → 1 ≤ n) [
        | zero ↦ λ none. absurd (true≢false (sym there ∙ ap (λ (k : FinMap link_cmp V). fin.contains_key k e) (fin.empty_of_len m none) ∙ ap is_some (fin.get-empty link_cmp e)))
        | suc n ↦ λ _. omega arith
      ] refl

  pub within : (d : ObjId) (n : ℕ) (s : FinSet name_order) (m : FinMap link_cmp V) → len s ≡ n → ((q : List ℕ) → contains s q ≡ true → fin.contains_key m (at d q) ≡ true) → n ≤ fin.len m
  within d zero s m is each = omega arith
  within d (suc n) s m is each =
      let k = (some_name s n is).0 in
      let inside = (some_name s n is).1 in
      let here = each k inside in
      let less : len (remove s k) ≡ n = len-remove names_total s k ∙ ap (λ b. cond b (len s - 1) (len s)) inside ∙ (let e : len s - 1 ≡ n = omega (arith, is) in e) in
      let rest : n ≤ fin.len (fin.remove m (at d k)) = within d n (remove s k) (fin.remove m (at d k)) less (λ q in_rest.
      let both = split (eq_by_cmp name_order q k) (contains s q) (sym (contains-remove names_total s k q) ∙ in_rest) in
      ap is_some (fin.get-remove link_total m (at d k) (at d q))
      ∙ ap (λ b. is_some (cond b None (fin.get m (at d q)))) (alike d q k ∙ both.0)
      ∙ each q both.1) in
      let fewer : fin.len (fin.remove m (at d k)) ≡ fin.len m - 1 = fin.len-remove link_total m (at d k) ∙ ap (λ b. cond b (fin.len m - 1) (fin.len m)) here in
      let some : 1 ≤ fin.len m = has_one m (at d k) here in
      omega (arith, rest, fewer, some)
