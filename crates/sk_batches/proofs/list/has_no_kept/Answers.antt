-- A batch with a record, or none.
use Rattle.sk_batches.proofs.Names.{◌+◌, ◌<◌, length, drop, sym, ◌∙◌, ap, arith, ◌==◌, drop_all, kept_of, kept_records}
use Rattle.sk_batches.proofs.Lists.{some_kept, none_kept, next_at}
use Rattle.sk_batches.proofs.list.has_no_kept.Goals as goal

pub returns-then-not-has_none_kept : goal.returns-then-not-has_none_kept
returns-then-not-has_none_kept c =
    let bs = c.args.batches.now in
    let i = c.loop-batch.batch-index in
    let b = c.batch-item.result in
    let lt : i < length bs = omega arith in
    let next = ap (λ xs. length (kept_records xs)) (next_at bs i b lt c.batch-item.is) in
    sym (ap (λ n. n == 0) (c.loop-batch.invariant ∙ next) ∙ some_kept (kept_of b) (kept_records (drop (i + 1) bs)) (sym c.has_none_kept.ensures ∙ c.if-not-has_none_kept.true))

pub loop-batch-preserved : goal.loop-batch-preserved
loop-batch-preserved c =
    let bs = c.args.batches.now in
    let i = c.loop-batch.batch-index in
    let b = c.batch-item.result in
    let lt : i < length bs = omega arith in
    let next = ap (λ xs. length (kept_records xs)) (next_at bs i b lt c.batch-item.is) in
    c.loop-batch.invariant ∙ next ∙ none_kept (kept_of b) (kept_records (drop (i + 1) bs)) (sym c.has_none_kept.ensures ∙ c.if-not-has_none_kept.false)

pub returns : goal.returns
returns c =
    sym (ap (λ n. n == 0) (c.loop-batch.invariant ∙ ap (λ xs. length (kept_records xs)) (drop_all c.loop-batch.batch-index c.args.batches.now (omega arith))))
