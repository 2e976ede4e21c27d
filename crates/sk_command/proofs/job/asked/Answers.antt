-- The command that is built is the one that the definition has, so clap's facts are exact for it.
use Rattle.sk_command.proofs.Names.{ap, subst, ◌∙◌, ◌≡◌, [], map, string_bytes, fault_of, is_simple_and_free, HasKind}
use Rattle.sk_command.proofs.Names.{App, is_simple, subcommand_of, wish_found}
use Rattle.sk_command.proofs.Jobs.{is_plain, is_known}
use Rattle.sk_command.proofs.job.asked.Goals as goal

pub returns-in-Err-clause-err : goal.returns-in-Err-clause-err
returns-in-Err-clause-err c =
    let app = c.in_ok-parser.ensures in
    subst (λ (a : App). HasKind (fault_of a (map string_bytes c.args.words.now)) c.in-Err.error) app (c.in-Err.ensures.kinds (ap is_simple_and_free app ∙ is_known))

pub returns-in-Ok-clause-faultless : goal.returns-in-Ok-clause-faultless
returns-in-Ok-clause-faultless c =
    let app = c.in_ok-parser.ensures in
    subst (λ (a : App). fault_of a (map string_bytes c.args.words.now) ≡ []) app (c.in-Ok.ensures.kinds (ap is_simple_and_free app ∙ is_known))

pub returns-in-Ok-clause-job : goal.returns-in-Ok-clause-job
returns-in-Ok-clause-job c =
    let app = c.in_ok-parser.ensures in
    let rows = (c.in-Ok.ensures.matches (ap is_simple app ∙ is_plain)).1 in
    c.job_of.ensures.job ∙ ap wish_found (rows ∙ ap (λ a. subcommand_of a (map string_bytes c.args.words.now)) app)
