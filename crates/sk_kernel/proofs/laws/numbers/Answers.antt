-- The number of the last guess is the greatest.
use Rattle.sk_kernel.proofs.Lawful.{below_next}
use Rattle.sk_kernel.proofs.laws.numbers.Goals as goal

pub returns : goal.returns
returns c = λ k id sound drawn. below_next k sound id drawn
