use Rattle.sk_engine.proofs.Runs.{still_has_all}
use Rattle.sk_engine.proofs.laws.still_law.Goals as goal

pub returns : goal.returns
returns c = still_has_all
