use Rattle.sk_led.proofs.Led.{refused_is_nowhere}
use Rattle.sk_led.proofs.laws.refused_law.Goals as goal

pub returns : goal.returns
returns c = refused_is_nowhere
