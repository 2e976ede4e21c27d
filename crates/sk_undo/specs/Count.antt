-- How many notes slots hold.
use Rattle.std.specs.Prelude.{◌≡◌, ℕ, [], length}
use Rattle.sk_undo.specs.Base.{sum_by, Entity}
use Rattle.std.specs.FinMap as map
use Rattle.sk_undo.specs.Slot.{SlotView}
use Rattle.sk_undo.specs.Logs.{SlotMap, log_at}

abbrev pub note_count : SlotView → ℕ
note_count s = length s.log

-- the notes of all entities together
abbrev pub notes_in : SlotMap → ℕ
notes_in m = sum_by note_count (map.values m)

-- no entity has a note
abbrev pub AreUnnoted : SlotMap → Type 0
AreUnnoted m = (e : Entity) → log_at m e ≡ []
