use Rattle.sk_led.proofs.Windup.{wound_up_is_led}
use Rattle.sk_led.proofs.laws.wound_up_law.Goals as goal

pub returns : goal.returns
returns c = wound_up_is_led
