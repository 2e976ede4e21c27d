-- The first absent ones are listed.
use Rattle.std.proofs.Common.{take}
use Rattle.sk_bytes.proofs.Moves.{AbsentIn}
use Rattle.sk_bytes.proofs.numbers.absent_dependents.Given as goal

abbrev pub invariant-loop-number : goal.invariant-loop-number
invariant-loop-number g l = AbsentIn l.kernel.slots (take l.number-index l.number-items) l.absent.items
