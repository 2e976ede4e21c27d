-- Just the tokens of undecided guesses are left.
use Rattle.std.proofs.Common.{length}
use Rattle.sk_batched.proofs.Queues.{Holds}
use Rattle.sk_batched.proofs.batched.Batched.drop.Given as goal

abbrev pub invariant-loop-kernel : goal.invariant-loop-kernel
invariant-loop-kernel g l = Holds l.kernel.parts l.tokens.items

abbrev pub decreases-loop-kernel : goal.decreases-loop-kernel
decreases-loop-kernel g l = length l.tokens.items
