-- What the call did.
use Rattle.std.proofs.Common.{refl}
use Rattle.sk_handles.proofs.client.Client.give.Goals as goal

pub returns : goal.returns
returns c = (c.give_reply.result, c.of_given.ensures, c.give_reply.ensures, refl)
