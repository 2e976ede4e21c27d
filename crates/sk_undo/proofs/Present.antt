-- The entities of slots that have a value: of the keys of the map those are kept whose slots do.
use Rattle.sk_undo.proofs.Cites.{◌≡◌, Bool, true, false, cond, ◌&&◌, Option, Some, None, List, [], ◌∷◌, refl, sym, ◌∙◌, ap, is_some, filter}
use Rattle.sk_undo.proofs.Cites.{list_all, each, find, and_parts}
use Rattle.sk_undo.proofs.Cites.{Equal-is, eq_by_cmp, any-filter_same, entity_cmp, Entity, entity_exact, is_in}
use Rattle.sk_undo.proofs.Cites.{SlotView, SlotMap, slot_in, look_at}
use Rattle.std.specs.FinMap as map

abbrev pub has_value : SlotMap → Entity → Bool
has_value m e = is_some (look_at m e)

-- without a slot there is no value
with_slot : (o : Option SlotView) → (is_some (slot_in o).now && is_some o) ≡ is_some (slot_in o).now
with_slot None = refl
with_slot (Some s) = elim (is_some s.now) as (λ b. (b && true) ≡ b) [ true ↦ refl | false ↦ refl ]

pub present_are : (m : SlotMap) (e : Entity) → is_in entity_cmp (filter (has_value m) (map.keys m)) e ≡ has_value m e
present_are m e =
    any-filter_same (eq_by_cmp entity_cmp e) (has_value m) (has_value m e) (λ k is. ap (has_value m) (sym (entity_exact e k ((Equal-is (entity_cmp e k)).0 is)))) (map.keys m)
    ∙ ap (λ b. has_value m e && b) (sym (map.contains_key-keys m e))
    ∙ with_slot (map.get m e)

pub and_assoc : (a b c : Bool) → ((a && b) && c) ≡ (a && (b && c))
and_assoc a b c = elim a as (λ x. ((x && b) && c) ≡ (x && (b && c))) [ true ↦ refl | false ↦ refl ]

-- ---- where each slot has a value, each key is of an entity that is there
found_has : (es : List (Entity × SlotView)) → list_all (λ s. is_some s.now) (each (λ e. e.1) es) ≡ true → (q : Entity)
    → is_some (find entity_cmp q es) ≡ is_some (slot_in (find entity_cmp q es)).now
found_has [] h q = refl
found_has (e ∷ es) h q =
    let p = and_parts (is_some e.1.now) (list_all (λ s. is_some s.now) (each (λ x. x.1) es)) h in
    elim (eq_by_cmp entity_cmp q e.0) as (λ b. is_some (cond b (Some e.1) (find entity_cmp q es)) ≡ is_some (slot_in (cond b (Some e.1) (find entity_cmp q es))).now) [
      | true ↦ sym p.0
      | false ↦ found_has es p.1 q
    ]

pub all_are : (m : SlotMap) (e : Entity) → list_all (λ s. is_some s.now) (map.values m) ≡ true → is_in entity_cmp (map.keys m) e ≡ has_value m e
all_are m e h =
    sym (map.contains_key-keys m e)
    ∙ ap is_some (map.get-entries m e)
    ∙ found_has (map.entries m) h e
    ∙ ap (λ o. is_some (slot_in o).now) (sym (map.get-entries m e))
