use Rattle.std.proofs.Common.{vec_len}
use Rattle.kernels_tests.proofs.plays.spends.Given as goal

abbrev pub decreases-loop-player : goal.decreases-loop-player
decreases-loop-player g l = vec_len l.player.tokens
