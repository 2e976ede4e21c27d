-- The next number follows those that were sent.
use Rattle.threads_tests.proofs.Names.{◌≡◌, ◌≤◌, ◌+◌, length, view, IsSending}
use Rattle.threads_tests.proofs.two_threads.send_all.Given as goal

abbrev pub invariant-loop : goal.invariant-loop
invariant-loop g l =
    IsSending l.wire l.pass × ((view l.pass).first ≡ l.first) × (l.number ≡ l.first + length (view l.pass).sent) × (l.number ≤ l.first + l.count)
