-- What the call did.
use Rattle.sk_handles.proofs.own_calls.say.Goals as goal

pub returns : goal.returns
returns c = (c.say.result, c.of_part.ensures, c.say.ensures)
