-- What is not written stays.
use Rattle.sk_kernel.proofs.Lawful.{step_keeps, guess_keeps}
use Rattle.sk_kernel.proofs.laws.unwritten.Goals as goal

pub returns-clause-step : goal.returns-clause-step
returns-clause-step c = λ k pid input sound. step_keeps k sound pid input

pub returns-clause-guess : goal.returns-clause-guess
returns-clause-guess c = λ k pid input sound. guess_keeps k sound pid input
