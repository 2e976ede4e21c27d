-- Those before a place are changed.
use Rattle.sk_batches.specs.Queue.{tell}
use Rattle.sk_batches.proofs.Lists.{IsMapped}
use Rattle.sk_batches.proofs.list.tell_all.Given as goal

abbrev pub invariant-loop-place : goal.invariant-loop-place
invariant-loop-place l = IsMapped (tell l.frame l.stage) l.fn.batches.items l.batches.items l.place
