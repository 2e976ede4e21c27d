-- The law is that of all step functions.
use Rattle.sk_deeds.proofs.Told.{tells}
use Rattle.sk_deeds.proofs.laws.told_run.Goals as goal

pub returns : goal.returns
returns g c = λ own. tells own
