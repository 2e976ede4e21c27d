-- What is written has the step's values and tags.
use Rattle.sk_kernel.proofs.Lawful.{step_writes, guess_writes}
use Rattle.sk_kernel.proofs.laws.written.Goals as goal

pub returns-clause-step : goal.returns-clause-step
returns-clause-step c = λ k pid input sound. step_writes k sound pid input

pub returns-clause-guess : goal.returns-clause-guess
returns-clause-guess c = λ k pid input sound. guess_writes k sound pid input
