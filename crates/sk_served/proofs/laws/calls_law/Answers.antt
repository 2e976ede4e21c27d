use Rattle.sk_served.proofs.Called.{calls_plain}
use Rattle.sk_served.proofs.laws.calls_law.Goals as goal

pub returns : goal.returns
returns c = calls_plain
