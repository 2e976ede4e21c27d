use Rattle.sk_engine.proofs.Runs.{decided_is_read}
use Rattle.sk_engine.proofs.laws.read_law.Goals as goal

pub returns : goal.returns
returns c = decided_is_read
