use Rattle.sk_served.proofs.Stored.{runs_store}
use Rattle.sk_served.proofs.laws.store_law.Goals as goal

pub returns : goal.returns
returns c = runs_store
