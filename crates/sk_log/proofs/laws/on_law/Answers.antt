use Rattle.sk_log.proofs.Further.{goes_on}
use Rattle.sk_log.proofs.laws.on_law.Goals as goal

pub returns : goal.returns
returns c = goes_on
