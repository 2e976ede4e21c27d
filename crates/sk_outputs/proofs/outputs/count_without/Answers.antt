-- What depends on the guess is counted still.
use Rattle.std.proofs.Common.{◌<◌, ◌+◌, length, drop, sym, ◌∙◌, subst, arith}
use Rattle.sk_outputs.proofs.Counted.{drop_is, left_to_count, some_left}
use Rattle.sk_outputs.proofs.outputs.count_without.Goals as goal

pub count_down-requires : goal.count_down-requires
count_down-requires g c =
    let xs = c.args.said.now.items in
    let x = c.index-output.result.now in
    let p = c.loop-place.place in
    let near : p < length xs = omega (arith, c.loop-place-test.true, c.len-place-end.ensures, c.args.said.now.ok.0) in
    let left = subst (λ ys. left_to_count c.args.id xs ys c.loop-place.counts.items c.to.result) (drop_is xs p x near c.index-output.ensures) (c.loop-place.invariant c.to.result) in
    some_left c.args.id xs (drop (p + 1) xs) x c.to.result c.to.ensures c.loop-place.counts.items c.to.result left (sym c.rests_on.ensures ∙ c.if-rests_on.true) c.to.ensures
