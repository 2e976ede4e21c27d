-- What the call did.
use Rattle.sk_handles.proofs.store_calls.output.Goals as goal

pub returns : goal.returns
returns c = (c.output.result, c.of_output.ensures, c.output.ensures)
