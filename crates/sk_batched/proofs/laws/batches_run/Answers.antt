-- Each call is told to the kernel inside.
use Rattle.sk_batched.proofs.Law.{batches_as_plain}
use Rattle.sk_batched.proofs.laws.batches_run.Goals as goal

pub returns : goal.returns
returns g c = λ own. batches_as_plain own
