-- Up to here only failures happened, and none where no guess was undecided.
use Rattle.sk_kernel.proofs.Names.{◌≡◌, [], length, undecided_at, FailsSome}
use Rattle.sk_kernel.proofs.holder.Holder.spend.Given as goal

abbrev pub invariant-loop-token : goal.invariant-loop-token
invariant-loop-token l = record {
  fails : FailsSome l.fn.self.kernel l.self.kernel;
  struck : undecided_at l.fn.self.kernel ≡ [] → l.self.kernel ≡ l.fn.self.kernel;
}

abbrev pub decreases-loop-token : goal.decreases-loop-token
decreases-loop-token l = length l.self.held
