-- Just tokens of struck guesses are left, and nothing else has changed.
use Rattle.std.proofs.Common.{length}
use Rattle.real_epochs.specs.Forgotten.{AreForgotten, IsForgotten}
use Rattle.real_epochs.proofs.epochs.forget_all.Given as goal

abbrev pub invariant-loop-begun : goal.invariant-loop-begun
invariant-loop-begun l = AreForgotten l.kernel l.line.items × IsForgotten l.initial.kernel l.kernel

abbrev pub decreases-loop-begun : goal.decreases-loop-begun
decreases-loop-begun l = length l.line.items
