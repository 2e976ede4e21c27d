-- Batches were decided, and nothing else has changed that the end depends on.
use Rattle.sk_led.proofs.Names.{◌≡◌, length, DoesLast}
use Rattle.sk_led.proofs.winding.decide_all.Given as goal

abbrev pub invariant-loop-outcome : goal.invariant-loop-outcome
invariant-loop-outcome l = DoesLast l.fn.store l.store × (l.store.places ≡ l.fn.store.places)

abbrev pub decreases-loop-outcome : goal.decreases-loop-outcome
decreases-loop-outcome l = length l.store.batched.queue.batches
