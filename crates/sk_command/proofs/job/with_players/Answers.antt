-- Two commands are added in turn, none of which has a global argument.
use Rattle.sk_command.proofs.Names.{◌∙◌, ap, ap₂, IfOk-weaker, App, with_subcommand}
use Rattle.sk_command.proofs.job.with_players.Goals as goal

pub returns : goal.returns
returns c =
    let first = c.in_ok-subcommand.ensures.shape c.in_ok-play.ensures.local ∙ ap₂ with_subcommand c.without_commands.ensures (ap (λ (a : App). a.top) c.in_ok-play.ensures.app) in
    IfOk-weaker c.subcommand-2.result _ _ (λ command adds. adds.shape c.in_ok-of_file.ensures.local ∙ ap₂ with_subcommand first (ap (λ (a : App). a.top) c.in_ok-of_file.ensures.app)) c.subcommand-2.ensures
