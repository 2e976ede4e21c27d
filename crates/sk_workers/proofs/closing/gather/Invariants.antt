use Rattle.sk_workers.proofs.Names.{◌≡◌, ◌+◌, vec_len, receipts_of}
use Rattle.sk_workers.proofs.closing.gather.Given as goal

abbrev pub invariant-loop-worker : goal.invariant-loop-worker
invariant-loop-worker g l = (l.all.parts + vec_len l.workers ≡ vec_len l.fn.workers) × (l.all.amount + receipts_of l.workers.items ≡ receipts_of l.fn.workers.items)

abbrev pub decreases-loop-worker : goal.decreases-loop-worker
decreases-loop-worker g l = goal.left-loop-worker g l
