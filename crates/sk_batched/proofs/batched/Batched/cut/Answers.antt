-- Each batch has the number that it had.
use Rattle.sk_batched.proofs.Queues.{cut_numbered, requeued}
use Rattle.sk_batched.proofs.batched.Batched.cut.Goals as goal

pub invariant_of-self : goal.invariant_of-self
invariant_of-self g c = (
  requeued c.self.inside.kernel.parts c.self.inside.queue c.self.inside.begun c.self.inside.tokens.items c.self.invariant.0 c.cut.new.self
      (cut_numbered c.args.made c.cut.result c.self.inside.queue c.cut.new.self c.cut.ensures),
  c.self.invariant.1,
)
