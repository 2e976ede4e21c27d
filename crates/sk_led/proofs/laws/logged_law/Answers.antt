use Rattle.sk_led.proofs.Led.{logged_is_in_engine}
use Rattle.sk_led.proofs.laws.logged_law.Goals as goal

pub returns : goal.returns
returns c = logged_is_in_engine
