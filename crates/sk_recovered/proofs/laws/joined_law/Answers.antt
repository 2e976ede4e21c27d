use Rattle.sk_recovered.proofs.Joined.{counted_joined}
use Rattle.sk_recovered.proofs.laws.joined_law.Goals as goal

pub returns : goal.returns
returns c = counted_joined
