-- What the call did.
use Rattle.sk_handles.proofs.own_calls.commit.Goals as goal

pub returns : goal.returns
returns c = (c.commit.result, c.of_commit.ensures, c.commit.ensures)
