-- The last of those so far.
use Rattle.sk_batches.proofs.Names.{◌≡◌, drop, last_in}
use Rattle.sk_batches.proofs.list.last_in.Given as goal

abbrev pub invariant-loop-batch : goal.invariant-loop-batch
invariant-loop-batch l = last_in l.frame l.number l.batches ≡ last_in l.frame l.last (drop l.batch-index l.batches)
