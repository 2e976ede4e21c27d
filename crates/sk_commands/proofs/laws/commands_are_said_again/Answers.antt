-- By each command.
use Rattle.sk_commands.proofs.Said.{said_again}
use Rattle.sk_commands.proofs.laws.commands_are_said_again.Goals as goal

pub returns : goal.returns
returns c = λ words command h. said_again words command h
