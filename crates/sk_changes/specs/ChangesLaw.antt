-- A change of any value and its undo give the value before.
use Rattle.std.specs.Prelude.{◌≡◌, true}
use Rattle.sk_changes.specs.Base.{ap, false≢true, Value, File, Pipe, Signals, Exit, Copy, Change, IsValue}
use Rattle.sk_changes.specs.FilesLaw.{file_restores}
use Rattle.sk_changes.specs.PipesLaw.{pipe_restores}
use Rattle.sk_changes.specs.QueuesLaw.{queue_restores}
use Rattle.sk_changes.specs.SlotsLaw.{exit_restores, copy_restores}
use Rattle.sk_changes.specs.Changes.{value_fits, value_after, value_undo, CanUndo, value_undone}

pub value_restores : (v : Value) (c : Change) → IsValue v → value_fits v c ≡ true → CanUndo (value_after v c) (value_undo v c) × (value_undone (value_after v c) (value_undo v c) ≡ v)
value_restores (File f) c valid fits = let law = file_restores f c valid fits in (law.0, ap File law.1)
value_restores (Pipe p) c valid fits = let law = pipe_restores p c valid fits in (law.0, ap Pipe law.1)
value_restores (Signals s) c valid fits = let law = queue_restores s c valid fits in (law.0, ap Signals law.1)
value_restores (Exit e) c valid fits = let law = exit_restores e c valid fits in (law.0, ap Exit law.1)
value_restores (Copy v) c valid fits = let law = copy_restores v c valid fits in (law.0, ap Copy law.1)
value_restores _ c valid fits = absurd (false≢true fits)
