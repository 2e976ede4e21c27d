-- What is read of the bytes of works is these works.
use Rattle.sk_replay.specs.Works.{log_limits}
use Rattle.sk_replay.proofs.Again.{read_as}
use Rattle.sk_replay.proofs.payload.works_of.Goals as goal

pub returns-clause-again : goal.returns-clause-again
returns-clause-again c = λ works asked within is. read_as log_limits c.args.payload.now c.read.result c.read.ensures works asked within is
