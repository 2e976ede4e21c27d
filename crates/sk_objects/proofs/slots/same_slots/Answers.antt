use Rattle.sk_objects.proofs.Names.{pointwise_decides, exact_bytes}
use Rattle.sk_objects.proofs.slots.same_slots.Goals as goal

pub returns : goal.returns
returns c = rw c.eq.ensures (pointwise_decides exact_bytes c.args.one.now c.args.other.now)
