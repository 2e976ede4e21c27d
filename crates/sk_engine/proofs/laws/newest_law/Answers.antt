use Rattle.sk_engine.proofs.Newest.{told_is_newest}
use Rattle.sk_engine.proofs.laws.newest_law.Goals as goal

pub returns : goal.returns
returns c = told_is_newest
