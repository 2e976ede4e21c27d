use Rattle.sk_commands.proofs.Names.{◌≡◌, drop, list_any, is_told_of_all}
use Rattle.sk_commands.proofs.work.are_told_of_all.Given as goal

abbrev pub invariant-loop-command : goal.invariant-loop-command
invariant-loop-command l = list_any is_told_of_all (drop l.command-index l.commands) ≡ list_any is_told_of_all l.commands
