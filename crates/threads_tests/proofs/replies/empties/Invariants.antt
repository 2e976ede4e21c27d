use Rattle.sk_wire.specs.Wire.{IsReceiving}
use Rattle.threads_tests.proofs.replies.empties.Given as goal

abbrev pub invariant-loop-number : goal.invariant-loop-number
invariant-loop-number g l = IsReceiving l.wire l.pass
