-- One after another.
use Rattle.sk_commands.proofs.Works.{works_again}
use Rattle.sk_commands.proofs.laws.works_are_carried_out_again.Goals as goal

pub returns : goal.returns
returns c = λ works said. works_again works said
