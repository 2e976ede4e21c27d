-- The guesses rise, so that none is above the last.
use Rattle.sk_outputs.proofs.Names.{sym, ◌∙◌, ap, arith, has, none_above}
use Rattle.sk_outputs.proofs.outputs.newest_of.Goals as goal

pub returns-in-len1-up : goal.returns-in-len1-up
returns-in-len1-up c = λ g above.
    ap (has g) (sym c.ids.ensures.members)
    ∙ none_above g c.newest-item.result c.ids.result.now c.ids.ensures.rising c.in-len1-up.len_at_least c.newest-item.is (omega (above, c.number.ensures.value, arith))
