-- What the call did.
use Rattle.sk_handles.proofs.own_calls.put_value.Goals as goal

pub returns : goal.returns
returns c = (c.put.result, c.of_part.ensures, c.put.ensures)
