use Rattle.std.proofs.Common.{length}
use Rattle.speculators_tests.proofs.costs.beside.end.Given as goal

abbrev pub decreases-loop-guess : goal.decreases-loop-guess
decreases-loop-guess g l = length l.others.items
