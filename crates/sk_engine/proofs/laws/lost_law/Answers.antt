use Rattle.sk_engine.proofs.Runs.{lost_is_never_found}
use Rattle.sk_engine.proofs.laws.lost_law.Goals as goal

pub returns : goal.returns
returns c = lost_is_never_found
