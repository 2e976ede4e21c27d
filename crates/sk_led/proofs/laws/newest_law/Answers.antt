use Rattle.sk_led.proofs.Host.{replies_are_newest}
use Rattle.sk_led.proofs.laws.newest_law.Goals as goal

pub returns : goal.returns
returns c = replies_are_newest
