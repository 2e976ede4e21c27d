use Rattle.sk_recovered.proofs.Crashed.{crashes_recovered}
use Rattle.sk_recovered.proofs.laws.crash_law.Goals as goal

pub returns : goal.returns
returns c = crashes_recovered
