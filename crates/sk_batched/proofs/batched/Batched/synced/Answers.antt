-- Each batch has the number that it had.
use Rattle.sk_batches.specs.declared.batch.Stage.TheVariants.{Synced}
use Rattle.sk_batched.proofs.Queues.{requeued, word_numbered}
use Rattle.sk_batched.proofs.batched.Batched.synced.Goals as goal

pub invariant_of-self : goal.invariant_of-self
invariant_of-self g c = (
  requeued c.self.inside.kernel.parts c.self.inside.queue c.self.inside.begun c.self.inside.tokens.items c.self.invariant.0 c.synced.new.self
      (word_numbered Synced c.synced.result c.args.frame c.self.inside.queue c.synced.new.self c.synced.ensures),
  c.self.invariant.1,
)
