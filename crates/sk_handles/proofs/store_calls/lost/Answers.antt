-- What the call did.
use Rattle.sk_handles.proofs.store_calls.lost.Goals as goal

pub returns : goal.returns
returns c = (c.wind_up.result, c.of_done.ensures, c.wind_up.ensures)
