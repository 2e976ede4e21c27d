use Rattle.sk_crashed.proofs.Lives.{lives_are_recovered}
use Rattle.sk_crashed.proofs.laws.lives_law.Goals as goal

pub returns : goal.returns
returns c = lives_are_recovered
