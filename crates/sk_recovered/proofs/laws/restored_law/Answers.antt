use Rattle.sk_recovered.proofs.Joined.{counted_restored}
use Rattle.sk_recovered.proofs.laws.restored_law.Goals as goal

pub returns : goal.returns
returns c = counted_restored
