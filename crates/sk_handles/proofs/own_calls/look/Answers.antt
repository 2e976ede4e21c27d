-- What the call did.
use Rattle.sk_handles.proofs.own_calls.look.Goals as goal

pub returns : goal.returns
returns c = (c.look.result, c.of_part.ensures, c.look.ensures)
