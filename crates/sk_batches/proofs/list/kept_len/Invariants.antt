-- The bytes so far, with those that are left.
use Rattle.sk_batches.proofs.Names.{◌≡◌, ◌+◌, drop, length, payload, kept_records}
use Rattle.sk_batches.proofs.list.kept_len.Given as goal

abbrev pub invariant-loop-batch : goal.invariant-loop-batch
invariant-loop-batch l =
    l.len + length (payload (kept_records (drop l.batch-index l.batches))) ≡ length (payload (kept_records l.batches))
