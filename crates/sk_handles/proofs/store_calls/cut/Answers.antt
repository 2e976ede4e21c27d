-- What the call did.
use Rattle.sk_handles.proofs.store_calls.cut.Goals as goal

pub returns : goal.returns
returns c = (c.cut.result, c.of_done.ensures, c.cut.ensures)
