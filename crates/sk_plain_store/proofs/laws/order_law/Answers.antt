use Rattle.sk_plain_store.proofs.Kept.{stays_in_order}
use Rattle.sk_plain_store.proofs.laws.order_law.Goals as goal

pub returns : goal.returns
returns c = stays_in_order
