-- What the call did.
use Rattle.sk_handles.proofs.store_calls.connect.Goals as goal

pub returns : goal.returns
returns c = (c.connect.result, c.of_channel.ensures, c.connect.ensures)
