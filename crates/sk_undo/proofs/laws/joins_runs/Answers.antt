use Rattle.sk_undo.proofs.Joined.{runs_joined}
use Rattle.sk_undo.proofs.laws.joins_runs.Goals as goal

pub returns : goal.returns
returns c = runs_joined
