-- The bytes so far, with those that are left.
use Rattle.sk_batches.proofs.Names.{◌≡◌, ◌+◌, drop, length, payload}
use Rattle.sk_batches.proofs.records.len_of.Given as goal

abbrev pub invariant-loop-record : goal.invariant-loop-record
invariant-loop-record l = l.len + length (payload (drop l.record-index l.records)) ≡ length (payload l.records)
