use Rattle.sk_commands.proofs.Names.{◌≡◌, drop, list_any, may_write}
use Rattle.sk_commands.proofs.work.may_write.Given as goal

abbrev pub invariant-loop-command : goal.invariant-loop-command
invariant-loop-command l = list_any may_write (drop l.command-index l.commands) ≡ list_any may_write l.commands
