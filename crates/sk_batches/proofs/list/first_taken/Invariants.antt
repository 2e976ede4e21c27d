-- None so far.
use Rattle.sk_batches.proofs.Names.{◌≡◌, drop, first_taken}
use Rattle.sk_batches.proofs.list.first_taken.Given as goal

abbrev pub invariant-loop-batch : goal.invariant-loop-batch
invariant-loop-batch l = first_taken l.batches ≡ first_taken (drop l.batch-index l.batches)
