-- What is to be sent again is no more than what is undecided.
use Rattle.sk_batches.proofs.Names.{◌≡◌, ◌+◌, length, ap, subst, arith, payload, QueueView, kept_records, next_records}
use Rattle.sk_batches.proofs.Lists.{both_length, kept_size}
use Rattle.sk_batches.proofs.queue.Queue.next_frame_len.Goals as goal

pub kept_len-requires : goal.kept_len-requires
kept_len-requires c =
    let same = ap (λ bs. length (payload (kept_records bs))) c.as_slice.ensures.value in
    let less = kept_size c.self.inside.batches.items in
    omega (arith, same, less, c.self.invariant)

pub overflow_add-result : goal.overflow_add-result
overflow_add-result c =
    let same = ap (λ bs. length (payload (kept_records bs))) c.as_slice.ensures.value in
    let less = kept_size c.self.inside.batches.items in
    omega (arith, same, less, c.self.invariant, c.kept_len.ensures, c.len.ensures)

pub returns : goal.returns
returns c =
    let same = ap (λ bs. length (payload (kept_records bs))) c.as_slice.ensures.value in
    let both = both_length (kept_records c.self.inside.batches.items) c.self.inside.records in
    subst (λ (q : QueueView). 24 + (c.kept_len.result + c.len.result) ≡ 24 + length (payload (next_records q))) c.self.view_is
    (omega (arith, same, both, c.kept_len.ensures, c.len.ensures))

pub overflow_add-result-2 : goal.overflow_add-result-2
overflow_add-result-2 c =
    let same = ap (λ bs. length (payload (kept_records bs))) c.as_slice.ensures.value in
    let less = kept_size c.self.inside.batches.items in
    omega (arith, same, less, c.self.invariant, c.kept_len.ensures, c.len.ensures)
