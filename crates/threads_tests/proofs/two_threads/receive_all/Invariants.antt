use Rattle.threads_tests.proofs.Names.{◌≤◌, IsReceiving}
use Rattle.threads_tests.proofs.two_threads.receive_all.Given as goal

abbrev pub invariant-loop : goal.invariant-loop
invariant-loop g l = IsReceiving l.wire l.pass × (l.received ≤ l.count)
