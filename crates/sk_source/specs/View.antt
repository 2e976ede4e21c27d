-- What contracts see of the file of a scenario.
use Rattle.std.specs.Prelude.{ℕ, List}

-- its lines, and those of its events as they are told
pub record SourceView : Type 0 where
  pub lines : List (List ℕ)
  pub events : List (List ℕ)
