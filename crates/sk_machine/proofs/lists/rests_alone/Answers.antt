-- The one guess of its set is that one.
use Rattle.sk_machine.proofs.Names.{◌≡◌, length, sym, ◌∙◌, arith, eqb-true, tags_in}
use Rattle.sk_machine.proofs.AsProcess.{one_within}
use Rattle.sk_machine.proofs.lists.rests_alone.Goals as goal

pub returns-in-len1 : goal.returns-in-len1
returns-in-len1 c = λ is.
    let single : length c.ids.result.now ≡ 1 = omega (arith, c.in-len1.len_at_least, c.in-len1.len_below) in
    one_within c.ids.result.now c.tags_of.result.now c.one-item.result c.args.id c.args.entity.now (tags_in c.args.logs.now.slots) single c.one-item.is
    (eqb-true c.one-item.result c.args.id (sym c.eq.ensures ∙ is)) c.ids.ensures.members c.tags_of.ensures
