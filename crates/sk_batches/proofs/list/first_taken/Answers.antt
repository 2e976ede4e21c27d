-- The first of those that are left.
use Rattle.sk_batches.proofs.Names.{◌+◌, ◌<◌, length, drop, cond, Some, sym, ◌∙◌, ap, arith, drop_all, first_taken}
use Rattle.sk_batches.proofs.Lists.{next_at}
use Rattle.sk_batches.proofs.list.first_taken.Goals as goal

pub returns-then-is_taken : goal.returns-then-is_taken
returns-then-is_taken c =
    let bs = c.args.batches.now in
    let i = c.loop-batch.batch-index in
    let b = c.batch-item.result in
    let lt : i < length bs = omega arith in
    let rest = first_taken (drop (i + 1) bs) in
    sym (c.loop-batch.invariant ∙ ap first_taken (next_at bs i b lt c.batch-item.is) ∙ ap (λ t. cond t (Some b.frame) rest) (sym c.is_taken.ensures ∙ c.if-is_taken.true))

pub loop-batch-preserved : goal.loop-batch-preserved
loop-batch-preserved c =
    let bs = c.args.batches.now in
    let i = c.loop-batch.batch-index in
    let b = c.batch-item.result in
    let lt : i < length bs = omega arith in
    let rest = first_taken (drop (i + 1) bs) in
    c.loop-batch.invariant ∙ ap first_taken (next_at bs i b lt c.batch-item.is) ∙ ap (λ t. cond t (Some b.frame) rest) (sym c.is_taken.ensures ∙ c.if-is_taken.false)

pub returns : goal.returns
returns c = sym (c.loop-batch.invariant ∙ ap first_taken (drop_all c.loop-batch.batch-index c.args.batches.now (omega arith)))
