-- What the call did.
use Rattle.std.proofs.Common.{refl}
use Rattle.sk_handles.proofs.client.Client.take_turn.Goals as goal

pub returns : goal.returns
returns c = (c.turn.result, c.of_turn.ensures, c.turn.ensures, refl)
