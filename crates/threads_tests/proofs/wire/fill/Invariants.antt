-- As many were sent as were tried.
use Rattle.threads_tests.proofs.Names.{◌≡◌, length, view, IsSending}
use Rattle.threads_tests.proofs.wire.fill.Given as goal

abbrev pub invariant-loop-k : goal.invariant-loop-k
invariant-loop-k g l = IsSending l.wire l.pass × ((view l.pass).first ≡ 7) × (length (view l.pass).sent ≡ l.k)
