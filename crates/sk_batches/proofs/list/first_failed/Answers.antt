-- The first of those that are left.
use Rattle.sk_batches.proofs.Names.{◌+◌, ◌<◌, length, drop, cond, Some, sym, ◌∙◌, ap, arith, drop_all, Cut}
use Rattle.sk_batches.proofs.Names.{first_failed, last_in}
use Rattle.sk_batches.proofs.Lists.{next_at}
use Rattle.sk_batches.proofs.list.first_failed.Goals as goal

pub loop-place-preserved : goal.loop-place-preserved
loop-place-preserved c =
    let bs = c.args.batches.now in
    let i = c.loop-place.place in
    let b = c.index-batches-place.result in
    let lt : i < length bs = omega arith in
    let rest = drop (i + 1) bs in
    let cut : Cut = record { frame = b.frame; first = b.number; last = last_in b.frame b.number rest } in
    c.loop-place.invariant ∙ ap first_failed (next_at bs i b lt c.index-batches-place.is) ∙ ap (λ t. cond t (Some cut) (first_failed rest)) (sym c.is_failed.ensures ∙ c.if-is_failed.false)

pub returns : goal.returns
returns c = sym (c.loop-place.invariant ∙ ap first_failed (drop_all c.loop-place.place c.args.batches.now (omega arith)))
