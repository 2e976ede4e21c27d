-- One batch more is counted.
use Rattle.sk_batches.proofs.Names.{◌+◌, ◌<◌, length, drop, ◌∙◌, ap, arith, sum_by, drop_all, sum_by-cons, payload}
use Rattle.sk_batches.proofs.Names.{Batch}
use Rattle.sk_batches.proofs.Lists.{next_at}
use Rattle.sk_batches.proofs.list.bytes_of.Goals as goal

pub overflow_add-bytes : goal.overflow_add-bytes
overflow_add-bytes c =
    let bs = c.args.batches.now in
    let i = c.loop-batch.batch-index in
    let lt : i < length bs = omega arith in
    let next = ap (sum_by (λ (b : Batch). length (payload b.records))) (next_at bs i c.batch-item.result lt c.batch-item.is) ∙ sum_by-cons (λ (b : Batch). length (payload b.records)) c.batch-item.result (drop (i + 1) bs) in
    omega (arith, next, c.loop-batch.invariant, c.len-bytes.ensures, c.requires)

pub loop-batch-preserved : goal.loop-batch-preserved
loop-batch-preserved c =
    let bs = c.args.batches.now in
    let i = c.loop-batch.batch-index in
    let lt : i < length bs = omega arith in
    let next = ap (sum_by (λ (b : Batch). length (payload b.records))) (next_at bs i c.batch-item.result lt c.batch-item.is) ∙ sum_by-cons (λ (b : Batch). length (payload b.records)) c.batch-item.result (drop (i + 1) bs) in
    omega (arith, next, c.loop-batch.invariant, c.len-bytes.ensures)

pub returns : goal.returns
returns c =
    let none = ap (sum_by (λ (b : Batch). length (payload b.records))) (drop_all c.loop-batch.batch-index c.args.batches.now (omega arith)) in
    omega (arith, none, c.loop-batch.invariant)
