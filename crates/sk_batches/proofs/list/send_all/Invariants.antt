-- Those before a place are changed.
use Rattle.sk_batches.specs.Queue.{send}
use Rattle.sk_batches.proofs.Lists.{IsMapped}
use Rattle.sk_batches.proofs.list.send_all.Given as goal

abbrev pub invariant-loop-place : goal.invariant-loop-place
invariant-loop-place l = IsMapped (send l.frame) l.fn.batches.items l.batches.items l.place
