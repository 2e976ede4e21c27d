-- Some command names a reserved key just where one of those that are left does.
use Rattle.sk_served.proofs.Names.{◌≡◌, drop, list_any, command_names_reserved}
use Rattle.sk_served.proofs.reserved.some_names_reserved.Given as goal

abbrev pub invariant-loop-command : goal.invariant-loop-command
invariant-loop-command l = list_any command_names_reserved (drop l.command-index l.commands) ≡ list_any command_names_reserved l.commands
