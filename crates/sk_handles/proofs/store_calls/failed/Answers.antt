-- What the call did.
use Rattle.sk_handles.proofs.store_calls.failed.Goals as goal

pub returns : goal.returns
returns c = (c.failed.result, c.of_done.ensures, c.failed.ensures)
