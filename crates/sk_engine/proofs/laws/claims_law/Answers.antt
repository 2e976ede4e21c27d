use Rattle.sk_engine.proofs.Claims.{leadership_is_one}
use Rattle.sk_engine.proofs.laws.claims_law.Goals as goal

pub returns : goal.returns
returns c = leadership_is_one
