-- What the call did.
use Rattle.sk_handles.proofs.rounds.take.Goals as goal

pub returns : goal.returns
returns c = (c.take.result, c.of_taken.ensures, c.take.ensures)
