-- Steps over values that are only ever set.
use Rattle.std.specs.Prelude.{Option}
use Rattle.sk_speculator.specs.Base.{NoUndo, Whole, Step}

abbrev pub WholeStep : Type 0 → Type 0 → Type 0 → Type 0
WholeStep K V O = Step K V O Whole (Option V) NoUndo
