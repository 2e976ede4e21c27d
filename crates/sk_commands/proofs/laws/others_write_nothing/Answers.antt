-- What may not write only replies.
use Rattle.sk_commands.proofs.Unwritten.{nothing, nothing_done}
use Rattle.sk_commands.proofs.laws.others_write_nothing.Goals as goal

pub returns-clause-command : goal.returns-clause-command
returns-clause-command c = λ command known has h. nothing command known has h

pub returns-clause-work : goal.returns-clause-work
returns-clause-work c = λ work known has h. nothing_done work known has h
