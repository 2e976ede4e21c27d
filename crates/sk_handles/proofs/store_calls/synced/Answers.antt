-- What the call did.
use Rattle.sk_handles.proofs.store_calls.synced.Goals as goal

pub returns : goal.returns
returns c = (c.synced.result, c.of_done.ensures, c.synced.ensures)
