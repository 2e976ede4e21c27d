-- The law is that of all systems.
use Rattle.sk_rests.proofs.Idle.{idle_may_go}
use Rattle.sk_rests.proofs.laws.idle_steps.Goals as goal

pub returns : goal.returns
returns g c = λ own. idle_may_go own
