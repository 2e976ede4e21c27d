-- Their ends are the same, and nothing is left out between them.
use Rattle.sk_ids.proofs.Names.{arith, ltb-true}
use Rattle.sk_ids.proofs.Runs.{same_run}
use Rattle.sk_ids.proofs.tags.is_same_run.Goals as goal

pub returns-else-number-to : goal.returns-else-number-to
returns-else-number-to c = λ is.
    let span = ltb-true c.saturating_sub-span.result _ is in
    same_run c.args.ids.now c.args.others.now c.oldest-item.result c.newest-item.result c.first-item.result c.last-item.result c.requires.ids c.requires.others (omega (arith, c.if-ids-others.false))
    c.oldest-item.is c.newest-item.is c.first-item.is c.last-item.is
    (omega (arith, c.if-number-from.false, c.number.ensures.value, c.number-from.ensures.value))
    (omega (arith, c.if-number-to.false, c.number-in-len2-up-len2-up.ensures.value, c.number-to.ensures.value))
    (omega (arith, span, c.saturating_sub-span.ensures, c.number-from.ensures.value, c.number-to.ensures.value))
