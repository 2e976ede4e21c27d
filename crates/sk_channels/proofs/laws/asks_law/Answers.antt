use Rattle.sk_channels.proofs.Cuts.{asks_are_said}
use Rattle.sk_channels.proofs.laws.asks_law.Goals as goal

pub returns : goal.returns
returns c = asks_are_said
