use Rattle.sk_led.proofs.Waiting.{nobody_waits}
use Rattle.sk_led.proofs.laws.ended_law.Goals as goal

pub returns : goal.returns
returns c = nobody_waits
