-- What is shown of entities that are present: what they have, and the guesses of their newest notes.
use Rattle.std.specs.Prelude.{ℕ, List, [], ◌∷◌, Option, Some, None}
use Rattle.sk_undo.specs.Base.{Entity, EntityState, Shown}
use Rattle.sk_undo.specs.Slot.{SlotView, own_tags}

-- of one without a value nothing is shown
abbrev pub shown_with : Entity → List ℕ → Option EntityState → List Shown
shown_with e tags None = []
shown_with e tags (Some state) = (e, (state, tags)) ∷ []

abbrev pub shown_at : Entity × SlotView → List Shown
shown_at entry = shown_with entry.0 (own_tags entry.1) entry.1.now
