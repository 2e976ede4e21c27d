use Rattle.sk_batches.proofs.Rest.{keeps_the_rest}
use Rattle.sk_batches.proofs.laws.kept_law.Goals as goal

pub returns : goal.returns
returns c = keeps_the_rest
