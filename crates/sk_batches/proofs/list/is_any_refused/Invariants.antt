-- None so far.
use Rattle.sk_batches.proofs.Names.{◌≡◌, drop, list_any, is_refused, Batch}
use Rattle.sk_batches.proofs.list.is_any_refused.Given as goal

abbrev pub invariant-loop-batch : goal.invariant-loop-batch
invariant-loop-batch l = list_any (λ (b : Batch). is_refused b.stage) l.batches ≡ list_any (λ (b : Batch). is_refused b.stage) (drop l.batch-index l.batches)
