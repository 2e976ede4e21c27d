-- The numbers of guesses.
use Rattle.std.specs.Prelude.{ℕ, ◌≤◌}
use Rattle.sk_ids.specs.declared.guess.TheConstants.{LAST_GUESS}

-- from 1 to 2^63 - 1
abbrev pub IsGuessNumber : ℕ → Type 0
IsGuessNumber n = (1 ≤ n) × (n ≤ LAST_GUESS)
