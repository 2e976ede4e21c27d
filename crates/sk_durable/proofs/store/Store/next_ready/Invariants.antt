-- Only what was hung up was let go of.
use Rattle.sk_durable.proofs.Names.{length, Sweeps}
use Rattle.sk_durable.proofs.store.Store.next_ready.Given as goal

abbrev pub invariant-loop-channel : goal.invariant-loop-channel
invariant-loop-channel l = Sweeps l.fn.self l.self

abbrev pub decreases-loop-channel : goal.decreases-loop-channel
decreases-loop-channel l = length l.self.batched.kernel.parts.said
