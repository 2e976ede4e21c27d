-- One batch more is counted.
use Rattle.sk_batches.proofs.Names.{◌+◌, ◌<◌, length, drop, ◌∙◌, ap, arith, drop_all, payload, kept_of, kept_records}
use Rattle.sk_batches.proofs.Lists.{both_length, next_at}
use Rattle.sk_batches.proofs.list.kept_len.Goals as goal

pub overflow_add-len : goal.overflow_add-len
overflow_add-len c =
    let bs = c.args.batches.now in
    let i = c.loop-batch.batch-index in
    let b = c.batch-item.result in
    let lt : i < length bs = omega arith in
    let next = ap (λ xs. length (payload (kept_records xs))) (next_at bs i b lt c.batch-item.is) ∙ both_length (kept_of b) (kept_records (drop (i + 1) bs)) in
    omega (arith, next, c.loop-batch.invariant, c.kept_len-len.ensures, c.requires)

pub loop-batch-preserved : goal.loop-batch-preserved
loop-batch-preserved c =
    let bs = c.args.batches.now in
    let i = c.loop-batch.batch-index in
    let b = c.batch-item.result in
    let lt : i < length bs = omega arith in
    let next = ap (λ xs. length (payload (kept_records xs))) (next_at bs i b lt c.batch-item.is) ∙ both_length (kept_of b) (kept_records (drop (i + 1) bs)) in
    omega (arith, next, c.loop-batch.invariant, c.kept_len-len.ensures)

pub returns : goal.returns
returns c =
    let none = ap (λ xs. length (payload (kept_records xs))) (drop_all c.loop-batch.batch-index c.args.batches.now (omega arith)) in
    omega (arith, none, c.loop-batch.invariant)
