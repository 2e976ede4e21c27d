-- What the call did.
use Rattle.sk_handles.proofs.store_calls.decide.Goals as goal

pub returns : goal.returns
returns c = (c.decide.result, c.of_outcome.ensures, c.decide.ensures)
