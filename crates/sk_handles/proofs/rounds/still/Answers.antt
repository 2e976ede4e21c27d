-- What the call did.
use Rattle.sk_handles.proofs.rounds.still.Goals as goal

pub returns : goal.returns
returns c = (c.still.result, c.of_still.ensures, c.still.ensures)
