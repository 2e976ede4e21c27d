-- No batch is larger than it was.
use Rattle.sk_batches.proofs.Names.{length, ap, arith, sum_by, payload, cut_off}
use Rattle.sk_batches.proofs.Lists.{size, sum_mapped, cut_size, kept_length}
use Rattle.sk_batches.proofs.queue.Queue.cut.Goals as goal

pub invariant_of-self-2 : goal.invariant_of-self-2
invariant_of-self-2 c =
    let less = sum_mapped (cut_off c.in-Some.cut) (cut_size c.in-Some.cut) c.self.inside.batches.items in
    let now = ap (sum_by size) c.cut_all.ensures in
    let fewer = kept_length c.in-Some.cut.first c.in-Some.cut.last c.self.inside.records in
    let left = ap (λ rs. length (payload rs)) c.keep.ensures in
    omega (arith, less, now, fewer, left, c.self.invariant)
