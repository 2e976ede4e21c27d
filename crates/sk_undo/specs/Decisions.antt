-- What a decision leaves, entity by entity.
use Rattle.std.specs.Prelude.{◌≡◌, ℕ, true, false, List, [], Some, None, reverse}
use Rattle.sk_undo.specs.Base.{entity_cmp, Entity, is_in, cut, unwound, committed, Merges, Open, UndoState, IsGrowing}
use Rattle.sk_undo.specs.Base.{EntityState}
use Rattle.std.specs.FinMap as map
use Rattle.sk_undo.specs.Log.{EachRests, carries}
use Rattle.sk_undo.specs.Slot.{SlotView, is_bare, committed_joined}
use Rattle.sk_undo.specs.Logs.{SlotMap, slot_in, placed, look_at, log_at}

-- a slot of which the notes that depend on a guess are taken back, with those after them
pub record SlotUnwound (g : ℕ) (old new : SlotView) : Type 0 where
  pub now : IsGrowing (reverse old.log) → new.now ≡ unwound g (reverse old.log) old.now
  pub log : IsGrowing (reverse old.log) → reverse new.log ≡ cut g (reverse old.log)

-- a slot whose notes have lost a guess; those that then have no tags are left out, and those for which the note before then stands
pub record SlotCommitted (g : ℕ) (old new : SlotView) : Type 0 where
  pub now : new.now ≡ old.now
  pub log : IsGrowing (reverse old.log) → Merges [] (committed g (reverse old.log)) (reverse new.log)
  pub joined : IsGrowing (reverse old.log) → EachRests (reverse old.log) → reverse new.log ≡ committed_joined g None (reverse old.log)

-- the slot of one entity is changed so; an entity that has a slot then had one before
pub record ChangedAt (Changed : SlotView → SlotView → Type 0) (old : SlotMap) (e : Entity) (new : SlotMap) : Type 0 where
  pub slot : SlotView
  pub changed : Changed (slot_in (map.get old e)) slot
  pub all : new ≡ placed old e slot
  pub kept : map.contains_key new e ≡ true → map.contains_key old e ≡ true

-- the notes that depend on a guess taken back, with those after them
pub record Unwound (old : SlotMap) (g : ℕ) (new : SlotMap) : Type 0 where
  pub look : (e : Entity) → look_at new e ≡ unwound g (log_at old e) (look_at old e)
  pub logs : (e : Entity) → log_at new e ≡ cut g (log_at old e)

-- all notes have lost a guess; those that then have no tags are left out, and those for which the note before then stands
pub record Lightened (old : SlotMap) (g : ℕ) (new : SlotMap) : Type 0 where
  pub look : (e : Entity) → look_at new e ≡ look_at old e
  pub logs : (e : Entity) → Merges [] (committed g (log_at old e)) (log_at new e)
  pub joined : (e : Entity) → log_at new e ≡ committed_joined g None (log_at old e)

-- each entity is listed of which a note depends on the guess
abbrev pub AreListed : ℕ → SlotMap → List Entity → Type 0
AreListed g m es = (e : Entity) → carries g (log_at m e) ≡ true → is_in entity_cmp es e ≡ true

-- each note of each entity depends on some guess
abbrev pub AllRest : SlotMap → Type 0
AllRest m = (e : Entity) → EachRests (log_at m e)

-- what a note depends on the later notes of its log depend on too
abbrev pub AllGrow : SlotMap → Type 0
AllGrow m = (e : Entity) → IsGrowing (log_at m e)

-- no slot is bare
abbrev pub NoneBare : SlotMap → Type 0
NoneBare m = (e : Entity) (s : SlotView) → map.get m e ≡ Some s → is_bare s ≡ false

-- values and logs, as a machine with these open guesses has them
abbrev pub undo_state : SlotMap → List Open → UndoState Entity EntityState
undo_state m opens = record { look = look_at m; logs = log_at m; opens = opens }
