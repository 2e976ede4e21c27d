-- What the call did.
use Rattle.sk_handles.proofs.store_calls.feed.Goals as goal

pub returns : goal.returns
returns c = (c.feed.result, c.of_fed.ensures, c.feed.ensures)
