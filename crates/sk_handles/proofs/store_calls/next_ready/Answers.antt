-- What the call did.
use Rattle.sk_handles.proofs.store_calls.next_ready.Goals as goal

pub returns : goal.returns
returns c = (c.next_ready.result, c.of_ready.ensures, c.next_ready.ensures)
