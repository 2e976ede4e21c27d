-- No guess is drawn or decided.
use Rattle.many_steps.proofs.Names.{◌≡◌, numbers}
use Rattle.many_steps.proofs.take_all.Given as goal

abbrev pub invariant-loop-turn : goal.invariant-loop-turn
invariant-loop-turn l = (l.kernel.guesses ≡ l.fn.kernel.guesses) × (numbers l.kernel.opens ≡ numbers l.fn.kernel.opens)
