use Rattle.std.proofs.Common.{◌≡◌}
use Rattle.threads_tests.proofs.shares.steps.Given as goal

abbrev pub invariant-loop : goal.invariant-loop
invariant-loop g l = l.worker.number ≡ l.fn.worker.number
