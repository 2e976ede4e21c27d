-- What the call did.
use Rattle.sk_handles.proofs.own_calls.remove.Goals as goal

pub returns : goal.returns
returns c = (c.remove.result, c.of_part.ensures, c.remove.ensures)
