use Rattle.sk_guesses.proofs.Passes.{Untagged}
use Rattle.sk_guesses.proofs.Shared.{IsPassed}
use Rattle.sk_guesses.proofs.open_list.withdraw.Given as goal

abbrev pub invariant-loop-place : goal.invariant-loop-place
invariant-loop-place g l = IsPassed (Untagged l.id) l.fn.opens.items l.opens.items l.place
