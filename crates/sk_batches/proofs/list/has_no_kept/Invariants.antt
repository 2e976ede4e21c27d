-- None so far.
use Rattle.sk_batches.proofs.Names.{◌≡◌, drop, length, kept_records}
use Rattle.sk_batches.proofs.list.has_no_kept.Given as goal

abbrev pub invariant-loop-batch : goal.invariant-loop-batch
invariant-loop-batch l = length (kept_records l.batches) ≡ length (kept_records (drop l.batch-index l.batches))
