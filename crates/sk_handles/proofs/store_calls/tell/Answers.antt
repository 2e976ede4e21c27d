-- What the call did.
use Rattle.sk_handles.proofs.store_calls.tell.Goals as goal

pub returns : goal.returns
returns c = (c.tell.result, c.of_told.ensures, c.tell.ensures)
