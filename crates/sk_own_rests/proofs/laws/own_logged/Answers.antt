-- The law is that of all step functions.
use Rattle.sk_own_rests.proofs.Own.{own_logged}
use Rattle.sk_own_rests.proofs.laws.own_logged.Goals as goal

pub returns : goal.returns
returns g c = λ own. own_logged own
