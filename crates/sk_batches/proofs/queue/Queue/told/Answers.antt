-- No batch is larger than it was.
use Rattle.sk_batches.proofs.Names.{ap, arith, sum_by, tell}
use Rattle.sk_batches.proofs.Lists.{size, sum_mapped, told_size}
use Rattle.sk_batches.proofs.queue.Queue.told.Goals as goal

pub invariant_of-self : goal.invariant_of-self
invariant_of-self c =
    let less = sum_mapped (tell c.args.frame c.args.stage) (told_size c.args.frame c.args.stage) c.self.inside.batches.items in
    let now = ap (sum_by size) c.tell_all.ensures in
    omega (arith, less, now, c.self.invariant)
