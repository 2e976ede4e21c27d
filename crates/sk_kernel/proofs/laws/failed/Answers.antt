-- A failed guess is not undecided.
use Rattle.sk_kernel.proofs.Lawful.{none_rests_on, no_tag}
use Rattle.sk_kernel.proofs.laws.failed.Goals as goal

pub returns-clause-rests : goal.returns-clause-rests
returns-clause-rests c = λ k id e rests. none_rests_on k id e rests

pub returns-clause-tags : goal.returns-clause-tags
returns-clause-tags c = λ k id e sound undecided. no_tag k id e sound undecided
