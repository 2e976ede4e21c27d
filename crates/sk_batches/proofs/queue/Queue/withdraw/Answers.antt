-- Less is undecided.
use Rattle.sk_batches.proofs.Names.{ap, length, arith, payload}
use Rattle.sk_batches.proofs.Lists.{last_length}
use Rattle.sk_batches.proofs.queue.Queue.withdraw.Goals as goal

pub invariant_of-self : goal.invariant_of-self
invariant_of-self c =
    let less = last_length c.self.inside.records in
    let now = ap (λ rs. length (payload rs)) c.drop_last.ensures in
    omega (arith, less, now, c.self.invariant)
