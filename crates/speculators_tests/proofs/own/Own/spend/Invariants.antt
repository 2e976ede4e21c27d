use Rattle.std.proofs.Common.{vec_len}
use Rattle.speculators_tests.proofs.own.Own.spend.Given as goal

abbrev pub decreases-loop-self : goal.decreases-loop-self
decreases-loop-self g l = vec_len l.self.tokens
