-- What the call did.
use Rattle.sk_handles.proofs.own_calls.fail.Goals as goal

pub returns : goal.returns
returns c = (c.fail.result, c.of_fail.ensures, c.fail.ensures)
