-- One after another.
use Rattle.sk_commands.proofs.Works.{read_again}
use Rattle.sk_commands.proofs.laws.logs_are_read_again.Goals as goal

pub returns : goal.returns
returns c = λ limits works within. read_again limits works within
