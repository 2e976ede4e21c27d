use Rattle.sk_served.proofs.Runs.{runs_plain}
use Rattle.sk_served.proofs.laws.run_law.Goals as goal

pub returns : goal.returns
returns c = runs_plain
