-- The bytes so far stand behind the place, and behind them all is as it was.
use Rattle.sk_batches.proofs.Names.{take, drop, payload}
use Rattle.sk_batches.proofs.Lists.{IsWritten}
use Rattle.sk_batches.proofs.records.Records.write.Given as goal

abbrev pub invariant-loop-record : goal.invariant-loop-record
invariant-loop-record l = IsWritten (take l.place l.fn.room) (payload l.record-items) (payload (drop l.record-index l.record-items)) l.fn.room l.room l.at
