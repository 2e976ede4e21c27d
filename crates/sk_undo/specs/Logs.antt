-- All entities with their undo logs, entity by entity.
use Rattle.std.specs.Prelude.{ℕ, Bool, List, [], reverse, Option, Some, None, refl, if◌then◌else◌}
use Rattle.sk_undo.specs.Base.{Coded, code_by, coded×, coded_ℕ, coded_list, entity_cmp, Entity, Note, EntityState}
use Rattle.sk_undo.specs.Base.{PutBack, TakeBack, DropSlot, UndoLast}
use Rattle.std.specs.FinMap as map
use Rattle.sk_ids.specs.contracts.entity.Entity as entity
use Rattle.sk_undo.specs.contracts.slots.TakeBack as how_row
use Rattle.sk_undo.specs.Slot.{SlotView, slot_code, slot_of, is_bare, goes_unnoted, slot_wrote, slot_back, CanGoBackOnce}

abbrev pub SlotMap : Type 0
SlotMap = map.FinMap entity_cmp SlotView

abbrev pub slot_map_code : Coded SlotMap
slot_map_code = map.code entity.the_row.coded slot_code

-- an entity without a slot is absent, and nothing is noted of it
abbrev pub slot_in : Option SlotView → SlotView
slot_in None = slot_of None
slot_in (Some s) = s

abbrev pub look_at : SlotMap → Entity → Option EntityState
look_at m e = (slot_in (map.get m e)).now

-- the notes, the oldest first
abbrev pub log_at : SlotMap → Entity → List (Note EntityState)
log_at m e = reverse (slot_in (map.get m e)).log

-- the slots with this one of an entity; a bare one is left out
abbrev pub placed : SlotMap → Entity → SlotView → SlotMap
placed m e s = if is_bare s then map.remove m e else map.insert m e s

-- one write
abbrev pub slots_wrote : List ℕ → SlotMap → Entity → Option EntityState → SlotMap
slots_wrote tags m e v = placed m e (slot_wrote tags (slot_in (map.get m e)) v)

-- whether a write of an entity with these tags is not noted
abbrev pub is_unnoted : List ℕ → SlotMap → Entity → Bool
is_unnoted tags m e = goes_unnoted tags (slot_in (map.get m e)).log

-- what an entity had in a store, written without tags
abbrev pub moved : SlotMap → Entity → Option EntityState → SlotMap
moved m e None = m
moved m e (Some v) = slots_wrote [] m e (Some v)

-- the newest write taken back
abbrev pub slots_back : SlotMap → Entity → TakeBack → SlotMap
slots_back m e DropSlot = map.remove m e
slots_back m e (UndoLast back) = map.insert m e (slot_back (slot_in (map.get m e)) back)

abbrev pub CanUndoLast : Option SlotView → Option (PutBack EntityState) → Type 0
CanUndoLast None back = ⊥
CanUndoLast (Some s) back = CanGoBackOnce s back

abbrev pub CanTakeBack : SlotMap → Entity → TakeBack → Type 0
CanTakeBack m e DropSlot = Unit {0}
CanTakeBack m e (UndoLast back) = CanUndoLast (map.get m e) back

-- an entity that was written, and what takes that back
pub record BackView : Type 0 where
  pub entity : Entity
  pub how : TakeBack

abbrev pub back_code : Coded BackView
back_code = code_by (Entity × TakeBack) (coded× entity.the_row.coded how_row.the_row.coded) (λ n. (n.entity, n.how)) (λ p. record { entity = p.0; how = p.1 }) (λ _. refl)

-- the slots, and the tags of the step that is performed
pub record LogsView : Type 0 where
  pub slots : SlotMap
  pub tags : List ℕ

abbrev pub logs_code : Coded LogsView
logs_code = code_by (SlotMap × List ℕ) (coded× slot_map_code (coded_list coded_ℕ)) (λ l. (l.slots, l.tags)) (λ p. record { slots = p.0; tags = p.1 }) (λ _. refl)

abbrev pub wrote : LogsView → Entity → Option EntityState → LogsView
wrote l e v = record { slots = slots_wrote l.tags l.slots e v; tags = l.tags }

abbrev pub taken_back : LogsView → BackView → LogsView
taken_back l b = record { slots = slots_back l.slots b.entity b.how; tags = l.tags }
