-- The step writes no key of a batch.
use Rattle.sk_batched.proofs.Answering.{step_or_not}
use Rattle.sk_batched.proofs.Barred.{step_bars}
use Rattle.sk_batched.proofs.Spared.{spared}
use Rattle.sk_batched.proofs.batched.Batched.take_in_batch.Goals as goal

pub invariant_of-self : goal.invariant_of-self
invariant_of-self g c =
    step_or_not c.take.result c.self.inside.kernel c.take.new.self c.self.inside.queue c.self.inside.begun c.self.inside.tokens.items _ (spared c.args.step.now c.requires)
    (step_bars c.args.step.now c.requires)
    c.take.ensures.ok c.take.ensures.err c.self.invariant
