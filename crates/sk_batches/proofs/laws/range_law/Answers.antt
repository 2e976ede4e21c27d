use Rattle.sk_batches.proofs.Dense.{cuts_a_range}
use Rattle.sk_batches.proofs.laws.range_law.Goals as goal

pub returns : goal.returns
returns c = cuts_a_range
