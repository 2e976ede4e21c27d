use Rattle.sk_served.proofs.Steps.{acts}
use Rattle.sk_served.proofs.laws.entries_act.Goals as goal

pub returns : goal.returns
returns c = acts
