use Rattle.sk_log.proofs.Further.{crashes_again}
use Rattle.sk_log.proofs.laws.again_law.Goals as goal

pub returns : goal.returns
returns c = crashes_again
