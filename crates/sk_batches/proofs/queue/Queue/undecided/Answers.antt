-- The bytes are no more than may be.
use Rattle.sk_batches.proofs.Names.{ap, arith, sum_by}
use Rattle.sk_batches.proofs.Lists.{size}
use Rattle.sk_batches.proofs.queue.Queue.undecided.Goals as goal

pub bytes_of-requires : goal.bytes_of-requires
bytes_of-requires c = let same = ap (sum_by size) c.as_slice.ensures.value in omega (arith, same, c.self.invariant)

pub overflow_add-result : goal.overflow_add-result
overflow_add-result c =
    let same = ap (sum_by size) c.as_slice.ensures.value in omega (arith, same, c.self.invariant, c.bytes_of.ensures, c.len.ensures)
