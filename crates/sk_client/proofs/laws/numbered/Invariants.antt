-- The processes so far have such numbers.
use Rattle.sk_client.proofs.Names.{take, All, HasNumber}
use Rattle.sk_client.proofs.laws.numbered.Given as goal

abbrev pub invariant-loop-process : goal.invariant-loop-process
invariant-loop-process l = All HasNumber (take l.process-index l.process-items)
