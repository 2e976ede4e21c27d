-- What the call did.
use Rattle.sk_handles.proofs.store_calls.tell_unknown.Goals as goal

pub returns : goal.returns
returns c = (c.tell_unknown.result, c.of_told.ensures, c.tell_unknown.ensures)
