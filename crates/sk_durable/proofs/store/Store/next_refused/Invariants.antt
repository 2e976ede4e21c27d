-- Only what was hung up was let go of.
use Rattle.sk_durable.specs.Posts.{Sweeps}
use Rattle.sk_durable.proofs.store.Store.next_refused.Given as goal

abbrev pub invariant-loop-channel : goal.invariant-loop-channel
invariant-loop-channel l = Sweeps l.fn.self l.self
