-- What a queue of signals holds.
use Rattle.std.specs.Prelude.{ℕ, ◌≤◌}
use Rattle.sk_objects.specs.declared.signals.TheConstants.{LAST_SIGNAL}

-- a signal's number
abbrev pub IsSignal : ℕ → Type 0
IsSignal n = (1 ≤ n) × (n ≤ LAST_SIGNAL)
