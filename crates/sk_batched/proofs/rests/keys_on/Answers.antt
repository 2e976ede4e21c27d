-- One guess more has its key.
use Rattle.sk_batched.proofs.Names.{◌<◌, arith, length, map, subst, vec_items}
use Rattle.sk_batched.specs.Barred.{WithOneOn}
use Rattle.sk_batched.proofs.Standing.{for_one_more}
use Rattle.sk_batched.proofs.rests.keys_on.Goals as goal

pub loop-token-preserved : goal.loop-token-preserved
loop-token-preserved g c =
    let m = c.args.kernel.now.parts in
    let ts = c.args.tokens.now in
    let i = c.loop-token.token-index in
    let old = map vec_items c.loop-token.keys.items in
    let new = map vec_items c.add_resting.new.keys.items in
    let lt : i < length ts = omega arith in
    for_one_more m ts i c.token-item.result old new c.requires lt c.token-item.is c.loop-token.invariant
    (subst (λ g. WithOneOn m g old new) c.id.ensures c.in_ok-add_resting.ensures)
