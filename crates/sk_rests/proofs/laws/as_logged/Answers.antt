-- The law is that of all step functions.
use Rattle.sk_rests.proofs.Ends.{as_logged}
use Rattle.sk_rests.proofs.laws.as_logged.Goals as goal

pub returns : goal.returns
returns g c = λ own. as_logged own
