-- It depends on nothing, or on guesses that are all there.
use Rattle.sk_machine.proofs.Names.{ap, sym, ◌∙◌, has, tags_in}
use Rattle.sk_machine.proofs.AsProcess.{covers_one, none_within}
use Rattle.sk_machine.proofs.as_process.is_within.Goals as goal

pub returns-then-is_none : goal.returns-then-is_none
returns-then-is_none c = λ _.
    none_within c.args.logs.now.tags c.tags_of-tags.result.now c.args.entity.now (tags_in c.args.logs.now.slots) (sym c.is_none.ensures ∙ c.if-is_none.true) c.tags_of-tags.ensures

pub returns : goal.returns
returns c = λ is.
    covers_one c.args.logs.now.tags c.args.entity.now (tags_in c.args.logs.now.slots)
    (λ g here. sym (ap (has g) c.next_tags.ensures) ∙ c.covers.ensures.0 is g (ap (has g) c.tags_of-tags.ensures ∙ here))
