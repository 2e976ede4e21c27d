-- The bytes so far stand at the front, and behind them all is as it was.
use Rattle.sk_batches.proofs.Names.{take, drop, payload, kept_records}
use Rattle.sk_batches.proofs.Lists.{IsWritten}
use Rattle.sk_batches.proofs.list.write_kept.Given as goal

abbrev pub invariant-loop-batch : goal.invariant-loop-batch
invariant-loop-batch l =
    IsWritten (take 0 l.fn.room) (payload (kept_records l.batches)) (payload (kept_records (drop l.batch-index l.batches))) l.fn.room l.room l.place
