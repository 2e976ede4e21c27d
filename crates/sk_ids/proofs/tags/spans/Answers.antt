-- The guesses rise, so that none is below the first, nor above the last.
use Rattle.sk_ids.proofs.Names.{◌<◌, arith, leb-false}
use Rattle.sk_ids.proofs.Newest.{none_above, none_below}
use Rattle.sk_ids.proofs.tags.spans.Goals as goal

pub returns-in-len1-up : goal.returns-in-len1-up
returns-in-len1-up c _ =
    none_below c.args.id c.oldest-item.result c.args.ids.now c.requires c.in-len1-up.len_at_least c.oldest-item.is
    (let below : c.number-2.result < c.number.result = c.if-number.true in
    omega (below, c.number.ensures.value, c.number-2.ensures.value, arith))

pub returns-in-len1-up-2 : goal.returns-in-len1-up-2
returns-in-len1-up-2 c fails =
    none_above c.args.id c.newest-item.result c.args.ids.now c.requires c.in-len1-up.len_at_least c.newest-item.is
    (let below : c.number-in-len1-up-2.result < c.number-in-len1-up-2-2.result = leb-false c.number-in-len1-up-2-2.result c.number-in-len1-up-2.result fails in
    omega (below, c.number-in-len1-up-2-2.ensures.value, c.number-in-len1-up-2.ensures.value, arith))
