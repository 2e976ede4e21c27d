-- The bytes so far, with those that are left.
use Rattle.sk_batches.proofs.Names.{◌≡◌, ◌+◌, drop, length, sum_by, payload, Batch}
use Rattle.sk_batches.proofs.list.bytes_of.Given as goal

abbrev pub invariant-loop-batch : goal.invariant-loop-batch
invariant-loop-batch l =
    l.bytes + sum_by (λ (b : Batch). length (payload b.records)) (drop l.batch-index l.batches) ≡ sum_by (λ (b : Batch). length (payload b.records)) l.batches
