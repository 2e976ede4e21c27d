-- The law is that of all step functions.
use Rattle.sk_deeds.proofs.Runs.{runs}
use Rattle.sk_deeds.proofs.laws.plain_run.Goals as goal

pub returns : goal.returns
returns g c = λ own. runs own
