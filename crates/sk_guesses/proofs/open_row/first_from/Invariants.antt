-- All from the first place to one are below; the distance to the other falls.
use Rattle.std.proofs.Common.{◌-◌}
use Rattle.sk_guesses.proofs.Named.{IsFirst}
use Rattle.sk_guesses.proofs.open_row.first_from.Given as goal

abbrev pub invariant-loop-low : goal.invariant-loop-low
invariant-loop-low g l = IsFirst l.row.items l.id l.from l.low l.high

abbrev pub decreases-loop-low : goal.decreases-loop-low
decreases-loop-low g l = l.high - l.low
