-- Of the entries of the slots those are shown that have a value: their entities are those that are present, and each has what is shown of it.
use Rattle.sk_undo.proofs.Cites.{◌≡◌, ℕ, cond, Option, Some, None, List, [], ◌∷◌, ◌++◌, refl, sym, subst, ◌∙◌, ap, is_some, filter}
use Rattle.sk_undo.proofs.Cites.{each, entity_cmp, entity_total, Entity, is_in}
use Rattle.sk_undo.proofs.Cites.{AllByRecursion, IsStrictlySortedBy, IsStrictlySortedBy-filter, SlotView, SlotMap, slot_in, look_at}
use Rattle.std.specs.FinMap as map
use Rattle.std.specs.List.{flat_map, All}
use Rattle.std.specs.Prelude.{reverse}
use Rattle.std.proofs.lemmas.List.Elements.{All-from_recursion}
use Rattle.std.proofs.lemmas.List.Concat.{flat_map-append}
use Rattle.sk_record.specs.Notes.{last_tags}
use Rattle.sk_store.specs.declared.entity_state.EntityState.{EntityState}
use Rattle.sk_store.specs.declared.present.Present.{Present}
use Rattle.sk_store.specs.Present.{IsPresent, entities_of}
use Rattle.sk_map.specs.FoundLemma.{each_found}
use Rattle.sk_undo.specs.Logs.{log_at}
use Rattle.sk_store.specs.Present.{Shown, shown}
use Rattle.sk_undo.specs.Present.{shown_with, shown_at}
use Rattle.sk_undo.proofs.ByKind.{keys_rise}
use Rattle.sk_undo.proofs.Present.{has_value, present_are}

each_got : (m : SlotMap) → AllByRecursion (λ e. map.get m e.0 ≡ Some e.1) (map.entries m)
each_got m = each_found entity_total m

-- ---- their entities
key_shown : (e : Entity) (tags : List ℕ) (o : Option EntityState) (rest : List Shown) (ks : List Entity) → each (λ s. s.0) rest ≡ ks → each (λ s. s.0) (shown_with e tags o ++ rest) ≡ cond (is_some o) (e ∷ ks) ks
key_shown e tags None rest ks h = h
key_shown e tags (Some v) rest ks h = ap (λ (l : List Entity). e ∷ l) h

keys_shown : (m : SlotMap) (es : List (Entity × SlotView)) → AllByRecursion (λ e. map.get m e.0 ≡ Some e.1) es → each (λ s. s.0) (flat_map shown_at es) ≡ filter (has_value m) (each (λ e. e.0) es)
keys_shown m [] h = refl
keys_shown m (e ∷ es) h =
    let ks = filter (has_value m) (each (λ x. x.0) es) in
    let has : has_value m e.0 ≡ is_some e.1.now = ap (λ o. is_some (slot_in o).now) h.0 in
    key_shown e.0 (last_tags [] (reverse e.1.log)) e.1.now (flat_map shown_at es) ks (keys_shown m es h.1) ∙ ap (λ b. cond b (e.0 ∷ ks) ks) (sym has)

entities_are : (ps : List Present) → entities_of ps ≡ each (λ s. s.0) (each shown ps)
entities_are [] = refl
entities_are (p ∷ ps) = ap (λ (l : List Entity). p.entity ∷ l) (entities_are ps)

-- ---- what each has
abbrev IsSeen : SlotMap → Shown → Type 0
IsSeen m s = (look_at m s.0 ≡ Some s.1.0) × (last_tags [] (log_at m s.0) ≡ s.1.1)

seen_with : (m : SlotMap) (e : Entity) (slot : SlotView) (o : Option EntityState) (rest : List Shown) → map.get m e ≡ Some slot → slot.now ≡ o → AllByRecursion (IsSeen m) rest → AllByRecursion (IsSeen m) (shown_with e (last_tags [] (reverse slot.log)) o ++ rest)
seen_with m e slot None rest is now h = h
seen_with m e slot (Some v) rest is now h = ((ap (λ s. (slot_in s).now) is ∙ now, ap (λ s. last_tags [] (reverse (slot_in s).log)) is), h)

all_seen : (m : SlotMap) (es : List (Entity × SlotView)) → AllByRecursion (λ e. map.get m e.0 ≡ Some e.1) es → AllByRecursion (IsSeen m) (flat_map shown_at es)
all_seen m [] h = tt
all_seen m (e ∷ es) h = seen_with m e.0 e.1 e.1.now (flat_map shown_at es) h.0 refl (all_seen m es h.1)

each_seen : (m : SlotMap) (ps : List Present) → AllByRecursion (IsSeen m) (each shown ps) → AllByRecursion (IsPresent (look_at m) (λ e. last_tags [] (log_at m e))) ps
each_seen m [] h = tt
each_seen m (p ∷ ps) h = (h.0, each_seen m ps h.1)

-- ---- of what is listed
module _ (m : SlotMap) (ps : List Present) (is : each shown ps ≡ flat_map shown_at (map.entries m)) where
  keys_are : entities_of ps ≡ filter (has_value m) (map.keys m)
  keys_are = entities_are ps ∙ ap (each (λ s. s.0)) is ∙ keys_shown m (map.entries m) (each_got m)

  pub rising_listed : IsStrictlySortedBy entity_cmp (entities_of ps)
  rising_listed = subst (λ (es : List Entity). IsStrictlySortedBy entity_cmp es) (sym keys_are) (IsStrictlySortedBy-filter entity_cmp (has_value m) (map.keys m) (keys_rise m))

  pub present_listed : (e : Entity) → is_in entity_cmp (entities_of ps) e ≡ is_some (look_at m e)
  present_listed e = ap (λ (es : List Entity). is_in entity_cmp es e) keys_are ∙ present_are m e

  pub each_listed : All (IsPresent (look_at m) (λ e. last_tags [] (log_at m e))) ps
  each_listed = All-from_recursion (IsPresent (look_at m) (λ e. last_tags [] (log_at m e))) ps (each_seen m ps (subst (λ (l : List Shown). AllByRecursion (IsSeen m) l) (sym is) (all_seen m (map.entries m) (each_got m))))

-- ---- one kind after another
pub one_kind : (a b c d e f : List (Entity × SlotView)) → flat_map shown_at a ++ (flat_map shown_at b ++ (flat_map shown_at c ++ (flat_map shown_at d ++ (flat_map shown_at e ++ flat_map shown_at f)))) ≡ flat_map shown_at (a ++ (b ++ (c ++ (d ++ (e ++ f)))))
one_kind a b c d e f =
    sym (flat_map-append shown_at a (b ++ (c ++ (d ++ (e ++ f))))
    ∙ ap (λ (l : List Shown). flat_map shown_at a ++ l) (flat_map-append shown_at b (c ++ (d ++ (e ++ f)))
    ∙ ap (λ (l : List Shown). flat_map shown_at b ++ l) (flat_map-append shown_at c (d ++ (e ++ f))
    ∙ ap (λ (l : List Shown). flat_map shown_at c ++ l) (flat_map-append shown_at d (e ++ f)
    ∙ ap (λ (l : List Shown). flat_map shown_at d ++ l) (flat_map-append shown_at e f)))))
