-- What the call did.
use Rattle.sk_handles.proofs.own_calls.take.Goals as goal

pub returns : goal.returns
returns c = (c.take.result, c.of_step.ensures, c.take.ensures)
