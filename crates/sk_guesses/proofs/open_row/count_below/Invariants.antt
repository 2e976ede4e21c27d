-- All before one place are below, and none from the other on; the distance of the two falls.
use Rattle.std.proofs.Common.{◌-◌}
use Rattle.sk_guesses.proofs.Named.{IsHalved}
use Rattle.sk_guesses.proofs.open_row.count_below.Given as goal

abbrev pub invariant-loop-low : goal.invariant-loop-low
invariant-loop-low l = IsHalved l.ids l.id l.low l.high

abbrev pub decreases-loop-low : goal.decreases-loop-low
decreases-loop-low l = l.high - l.low
