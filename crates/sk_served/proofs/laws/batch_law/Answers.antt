use Rattle.sk_served.proofs.Batch.{rests_on_batch}
use Rattle.sk_served.proofs.laws.batch_law.Goals as goal

pub returns : goal.returns
returns c = rests_on_batch
