-- Each batch has the number that it had.
use Rattle.sk_batches.specs.declared.batch.Stage.TheVariants.{Failed}
use Rattle.sk_batched.proofs.Queues.{requeued, word_numbered}
use Rattle.sk_batched.proofs.batched.Batched.failed.Goals as goal

pub invariant_of-self : goal.invariant_of-self
invariant_of-self g c = (
  requeued c.self.inside.kernel.parts c.self.inside.queue c.self.inside.begun c.self.inside.tokens.items c.self.invariant.0 c.failed.new.self
      (word_numbered Failed c.failed.result c.args.frame c.self.inside.queue c.failed.new.self c.failed.ensures),
  c.self.invariant.1,
)
