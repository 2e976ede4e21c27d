-- None so far.
use Rattle.sk_batches.proofs.Names.{◌≡◌, drop, list_any, awaits}
use Rattle.sk_batches.proofs.list.is_any_awaited.Given as goal

abbrev pub invariant-loop-batch : goal.invariant-loop-batch
invariant-loop-batch l = list_any (awaits l.frame) l.batches ≡ list_any (awaits l.frame) (drop l.batch-index l.batches)
