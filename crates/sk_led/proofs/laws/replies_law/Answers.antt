use Rattle.sk_led.proofs.Led.{replies_rest_on_engine}
use Rattle.sk_led.proofs.laws.replies_law.Goals as goal

pub returns : goal.returns
returns c = replies_rest_on_engine
