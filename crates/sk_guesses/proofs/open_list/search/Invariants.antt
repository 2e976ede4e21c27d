-- The guess stands between these places, or nowhere; the distance of the two falls.
use Rattle.std.proofs.Common.{◌-◌}
use Rattle.sk_guesses.proofs.Passes.{IsBetween}
use Rattle.sk_guesses.proofs.open_list.search.Given as goal

abbrev pub invariant-loop-low : goal.invariant-loop-low
invariant-loop-low g l = IsBetween l.opens.items l.id l.low l.high

abbrev pub decreases-loop-low : goal.decreases-loop-low
decreases-loop-low g l = l.high - l.low
