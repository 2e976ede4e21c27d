-- What was told is told with the refusal.
use Rattle.real_epochs.specs.Story.{with_call, Refuses}
use Rattle.real_epochs.proofs.epochs.Epochs.refused.Goals as goal

pub invariant_of-self : goal.invariant_of-self
invariant_of-self c = (with_call Refuses c.self.invariant.0, c.take_back.ensures.back.1 c.self.invariant.0 c.self.invariant.1)
