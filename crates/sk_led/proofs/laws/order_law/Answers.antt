use Rattle.sk_led.proofs.Order.{one_order}
use Rattle.sk_led.proofs.laws.order_law.Goals as goal

pub returns : goal.returns
returns c = one_order
