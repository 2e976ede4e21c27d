-- None so far.
use Rattle.sk_batches.proofs.Names.{◌≡◌, drop, list_any, is_sent, Batch}
use Rattle.sk_batches.proofs.list.is_any_sent.Given as goal

abbrev pub invariant-loop-batch : goal.invariant-loop-batch
invariant-loop-batch l = list_any (λ (b : Batch). is_sent b.stage) l.batches ≡ list_any (λ (b : Batch). is_sent b.stage) (drop l.batch-index l.batches)
