use Rattle.sk_channels.proofs.Cuts.{tickets_in_order}
use Rattle.sk_channels.proofs.laws.order_law.Goals as goal

pub returns : goal.returns
returns c = tickets_in_order
