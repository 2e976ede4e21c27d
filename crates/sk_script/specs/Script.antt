-- What a script is.
use Rattle.std.specs.Prelude.{ℕ}

-- the greatest number of instructions
abbrev pub INSTRUCTIONS : ℕ
INSTRUCTIONS = 4096
