-- What the call did.
use Rattle.sk_handles.proofs.store_calls.take_frame.Goals as goal

pub returns : goal.returns
returns c = (c.take_frame.result, c.of_sealed.ensures, c.take_frame.ensures)
