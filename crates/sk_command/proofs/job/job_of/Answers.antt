-- The name and the rows of the command that was found say what is asked for.
use Rattle.sk_command.proofs.Names.{codes, ◌∙◌, refl, found_of, subcommand_rows_of, rows_of, first_value-rows}
use Rattle.sk_command.proofs.Jobs.{name_in_rows, wish_in_rows}
use Rattle.sk_command.proofs.job.job_of.Goals as goal

pub returns-in_err-file-clause-job : goal.returns-in_err-file-clause-job
returns-in_err-file-clause-job c =
    let found = found_of c.in_ok-command.words.now in
    let file = c.in_err-file.ensures ∙ first_value-rows found (codes "FILE") in
    let matches = c.args.matches.now in
    let command = c.in_ok-command.command.now in
    let wish = wish_in_rows (subcommand_rows_of matches) command (rows_of found) (name_in_rows matches command c.in_ok-command.ensures.name) c.in_ok-command.ensures.rows in
    rw (c.from_residual-in_err-file.ensures, wish, ← file) refl

pub returns-in_err-task-clause-job : goal.returns-in_err-task-clause-job
returns-in_err-task-clause-job c =
    let found = found_of c.in_ok-command.words.now in
    let file = c.in_ok-file.ensures ∙ first_value-rows found (codes "FILE") in
    let matches = c.args.matches.now in
    let command = c.in_ok-command.command.now in
    let wish = wish_in_rows (subcommand_rows_of matches) command (rows_of found) (name_in_rows matches command c.in_ok-command.ensures.name) c.in_ok-command.ensures.rows in
    rw (c.from_residual-in_err-task.ensures, wish, ← file, ← c.in_err-task.ensures.task) refl

pub returns-clause-job : goal.returns-clause-job
returns-clause-job c =
    let found = found_of c.in_ok-command.words.now in
    let file = c.in_ok-file.ensures ∙ first_value-rows found (codes "FILE") in
    let matches = c.args.matches.now in
    let command = c.in_ok-command.command.now in
    let wish = wish_in_rows (subcommand_rows_of matches) command (rows_of found) (name_in_rows matches command c.in_ok-command.ensures.name) c.in_ok-command.ensures.rows in
    rw (wish, ← file, ← c.in_ok-task.ensures.task) refl
