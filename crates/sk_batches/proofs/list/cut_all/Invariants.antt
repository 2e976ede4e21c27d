-- Those before a place are changed.
use Rattle.sk_batches.specs.Queue.{cut_off}
use Rattle.sk_batches.proofs.Lists.{IsMapped}
use Rattle.sk_batches.proofs.list.cut_all.Given as goal

abbrev pub invariant-loop-place : goal.invariant-loop-place
invariant-loop-place l = IsMapped (cut_off l.cut) l.fn.batches.items l.batches.items l.place
