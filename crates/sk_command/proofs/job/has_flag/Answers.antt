-- The flag's value is the first of its row.
use Rattle.sk_command.proofs.Names.{◌∙◌, refl, found_of, first_value-rows}
use Rattle.sk_command.proofs.job.has_flag.Goals as goal

pub returns-in-Some : goal.returns-in-Some
returns-in-Some c =
    let row = c.in-Some.ensures ∙ first_value-rows (found_of c.args.words.now) c.args.flag.now in
    rw (← row) c.eq.ensures

pub returns-in-None : goal.returns-in-None
returns-in-None c =
    let row = c.in-None.ensures ∙ first_value-rows (found_of c.args.words.now) c.args.flag.now in
    rw (← row) refl
