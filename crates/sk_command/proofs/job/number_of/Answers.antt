-- The text of an argument is the first value of its row.
use Rattle.sk_command.proofs.Names.{◌∙◌, refl, found_of, first_value-rows}
use Rattle.sk_command.proofs.job.number_of.Goals as goal

pub returns-in-Some-clause-value : goal.returns-in-Some-clause-value
returns-in-Some-clause-value c =
    let row = c.in-Some.ensures ∙ first_value-rows (found_of c.args.words.now) c.args.argument.now in
    rw (← row) c.number_said.ensures.value

pub returns-in-None-clause-value : goal.returns-in-None-clause-value
returns-in-None-clause-value c =
    let row = c.in-None.ensures ∙ first_value-rows (found_of c.args.words.now) c.args.argument.now in
    rw (← row) refl
