use Rattle.sk_batches.proofs.Dense.{frames_are_dense}
use Rattle.sk_batches.proofs.laws.dense_law.Goals as goal

pub returns : goal.returns
returns c = frames_are_dense
