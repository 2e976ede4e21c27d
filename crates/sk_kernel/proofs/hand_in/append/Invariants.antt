-- As many steps were added as were counted, each into one place.
use Rattle.sk_kernel.proofs.Names.{◌≡◌, ◌+◌, ◌++◌, replicate, alone_step}
use Rattle.sk_kernel.proofs.hand_in.append.Given as goal

abbrev pub invariant-loop : goal.invariant-loop
invariant-loop l = (l.trace.events ≡ l.fn.trace.events ++ replicate l.counter (alone_step l.pid)) × (l.trace.room + l.counter ≡ l.fn.trace.room)
