use Rattle.sk_served.proofs.Stored.{stays_told}
use Rattle.sk_served.proofs.laws.told_law.Goals as goal

pub returns : goal.returns
returns c = stays_told
