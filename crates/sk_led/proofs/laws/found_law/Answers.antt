use Rattle.sk_led.proofs.Led.{leaders_go_on}
use Rattle.sk_led.proofs.laws.found_law.Goals as goal

pub returns : goal.returns
returns c = leaders_go_on
