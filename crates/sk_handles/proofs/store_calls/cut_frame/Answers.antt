-- What the call did.
use Rattle.sk_handles.proofs.store_calls.cut_frame.Goals as goal

pub returns : goal.returns
returns c = (c.cut_frame.result, c.of_sealed.ensures, c.cut_frame.ensures)
