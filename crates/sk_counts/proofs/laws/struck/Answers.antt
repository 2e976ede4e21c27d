use Rattle.sk_counts.proofs.Struck.{struck_is}
use Rattle.sk_counts.proofs.laws.struck.Goals as goal

pub returns : goal.returns
returns c = λ k g later. struck_is k g later
