-- What a pipe holds.
use Rattle.std.specs.Prelude.{ℕ, Bool, List}

-- the bytes that were put and not taken, the oldest first, and whether the pipe is shut
pub record PipeView : Type 0 where
  pub bytes : List ℕ
  pub shut : Bool
