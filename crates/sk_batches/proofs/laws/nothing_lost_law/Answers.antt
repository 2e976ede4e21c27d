use Rattle.sk_batches.proofs.Lost.{loses_nothing}
use Rattle.sk_batches.proofs.laws.nothing_lost_law.Goals as goal

pub returns : goal.returns
returns c = loses_nothing
