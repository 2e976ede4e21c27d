-- A directory has one count of names, which goes up and down with them, and which a state's names have.
use Rattle.sk_store.proofs.Names.{◌≡◌, ℕ, ◌+◌, ◌-◌, Bool, true, false, not, cond, ◌&&◌, ◌||◌, List, [], ◌∷◌, Some, None}
use Rattle.sk_store.proofs.Names.{refl, sym, ◌∙◌, ap, Ordering, Less, Equal, Greater, eq_by_cmp, is_eq, ordering_then}
use Rattle.sk_store.proofs.Names.{list_any, IsTotalOrder, nat_list_cmp_total, len, from_list, contains-insert}
use Rattle.sk_store.proofs.Names.{contains-remove, contains-from_list, len-insert, len-remove, same_set, exact_bytes}
use Rattle.sk_store.proofs.Names.{name_order, entity_cmp, object_cmp, ObjId, Entity, Proc, Sig, Exit, Obj, Link, Copy}
use Rattle.sk_store.proofs.Names.{State, IsCount, name_there, name_of, names_in, cons_option, filter_map}
use Rattle.std.specs.FinMap as map
use Rattle.std.specs.FinSet.{insert, remove}

total : IsTotalOrder name_order
total = nat_list_cmp_total

pub one_count : (there : ObjId → List ℕ → Bool) (d : ObjId) (m n : ℕ) → IsCount there d m → IsCount there d n → m ≡ n
one_count there d m n a b = sym a.count ∙ ap len (same_set total exact_bytes a.names b.names (λ q. a.all q ∙ sym (b.all q))) ∙ b.count

-- a name appears
pub one_more : (there after : ObjId → List ℕ → Bool) (d : ObjId) (name : List ℕ) (n : ℕ) → there d name ≡ false → ((q : List ℕ) → after d q ≡ (eq_by_cmp name_order q name || there d q))
    → IsCount there d n → IsCount after d (n + 1)
one_more there after d name n absent all a = record {
  names = insert a.names name;
  all = λ q. contains-insert total a.names name q ∙ ap (λ b. eq_by_cmp name_order q name || b) (a.all q) ∙ sym (all q);
  count = len-insert total a.names name ∙ ap (λ b. cond b (len a.names) (len a.names + 1)) (a.all name ∙ absent) ∙ ap (λ (k : ℕ). k + 1) a.count;
}

-- a name goes
pub one_less : (there after : ObjId → List ℕ → Bool) (d : ObjId) (name : List ℕ) (n : ℕ) → there d name ≡ true → ((q : List ℕ) → after d q ≡ (not (eq_by_cmp name_order q name) && there d q))
    → IsCount there d n → IsCount after d (n - 1)
one_less there after d name n present all a = record {
  names = remove a.names name;
  all = λ q. contains-remove total a.names name q ∙ ap (λ b. not (eq_by_cmp name_order q name) && b) (a.all q) ∙ sym (all q);
  count = len-remove total a.names name ∙ ap (λ b. cond b (len a.names - 1) (len a.names)) (a.all name ∙ present) ∙ ap (λ (k : ℕ). k - 1) a.count;
}

-- the same names are there
pub as_many : (there after : ObjId → List ℕ → Bool) (d : ObjId) (n : ℕ) → ((q : List ℕ) → after d q ≡ there d q) → IsCount there d n → IsCount after d n
as_many there after d n same a = record { names = a.names; all = λ q. a.all q ∙ sym (same q); count = a.count }

-- ---- in a state
at_link : (d o : ObjId) (q name : List ℕ) (rest : List (List ℕ)) (more : Bool) → list_any (eq_by_cmp name_order q) rest ≡ more
    → list_any (eq_by_cmp name_order q) (cons_option (cond (eq_by_cmp object_cmp d o) (Some name) None) rest) ≡ (eq_by_cmp entity_cmp (Link d q) (Link o name) || more)
at_link d o q name rest more same =
    elim (object_cmp d o) as (λ (r : Ordering). list_any (eq_by_cmp name_order q) (cons_option (cond (is_eq r) (Some name) None) rest) ≡ (is_eq (ordering_then r (name_order q name)) || more)) [
      | Less ↦ same
      | Equal ↦ ap (λ b. eq_by_cmp name_order q name || b) same
      | Greater ↦ same
    ]

among_is : (d : ObjId) (q : List ℕ) (es : List Entity) → list_any (eq_by_cmp name_order q) (filter_map (name_of d) es) ≡ list_any (eq_by_cmp entity_cmp (Link d q)) es
among_is d q [] = refl
among_is d q (Proc p ∷ es) = among_is d q es
among_is d q (Sig p ∷ es) = among_is d q es
among_is d q (Exit p ∷ es) = among_is d q es
among_is d q (Obj o ∷ es) = among_is d q es
among_is d q (Link o name ∷ es) = at_link d o q name (filter_map (name_of d) es) (list_any (eq_by_cmp entity_cmp (Link d q)) es) (among_is d q es)
among_is d q (Copy n ∷ es) = among_is d q es

pub names_counted : (s : State) (d : ObjId) → IsCount (name_there (map.get s)) d (names_in s d)
names_counted s d = record {
  names = from_list (filter_map (name_of d) (map.keys s));
  all = λ q. contains-from_list total (filter_map (name_of d) (map.keys s)) q ∙ among_is d q (map.keys s) ∙ sym (map.contains_key-keys s (Link d q));
  count = refl;
}
