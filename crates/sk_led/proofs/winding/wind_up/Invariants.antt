-- What was done since was of the end, and all is decided that can be.
use Rattle.sk_led.proofs.Names.{◌≡◌, None, queue_decided, DoesLast}
use Rattle.sk_led.proofs.Last.{segments_left}
use Rattle.sk_led.proofs.winding.wind_up.Given as goal

abbrev pub invariant-loop-store : goal.invariant-loop-store
invariant-loop-store l = DoesLast l.fn.store l.store × (queue_decided l.store.batched.queue.batches ≡ None)

abbrev pub decreases-loop-store : goal.decreases-loop-store
decreases-loop-store l = segments_left l.store
