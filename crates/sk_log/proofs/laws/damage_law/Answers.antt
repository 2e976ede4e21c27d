use Rattle.sk_log.proofs.Further.{crashes_are_short}
use Rattle.sk_log.proofs.laws.damage_law.Goals as goal

pub returns : goal.returns
returns c = crashes_are_short
