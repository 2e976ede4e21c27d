-- A step asks for what it needs.
use Rattle.sk_commands.proofs.Asked.{act_does}
use Rattle.sk_commands.proofs.laws.commands_act.Goals as goal

pub returns : goal.returns
returns c = λ channel known work has. act_does channel known work has
