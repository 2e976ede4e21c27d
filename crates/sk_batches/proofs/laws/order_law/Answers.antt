use Rattle.sk_batches.proofs.Order.{decides_in_order}
use Rattle.sk_batches.proofs.laws.order_law.Goals as goal

pub returns : goal.returns
returns c = decides_in_order
