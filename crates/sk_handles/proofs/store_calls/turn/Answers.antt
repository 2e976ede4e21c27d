-- What the call did.
use Rattle.sk_handles.proofs.store_calls.turn.Goals as goal

pub returns : goal.returns
returns c = (c.turn.result, c.of_done.ensures, c.turn.ensures)
