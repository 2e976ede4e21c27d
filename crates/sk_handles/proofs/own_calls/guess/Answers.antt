-- What the call did.
use Rattle.sk_handles.proofs.own_calls.guess.Goals as goal

pub returns : goal.returns
returns c = (c.guess.result, c.of_guess.ensures, c.guess.ensures)
