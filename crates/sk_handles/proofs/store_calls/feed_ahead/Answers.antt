-- What the call did.
use Rattle.sk_handles.proofs.store_calls.feed_ahead.Goals as goal

pub returns : goal.returns
returns c = (c.feed_ahead.result, c.of_fed.ensures, c.feed_ahead.ensures)
