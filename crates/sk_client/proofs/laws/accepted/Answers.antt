-- From the laws of worlds, told of a world's calls.
use Rattle.sk_client.proofs.Steps.{stores_stand, stores_stood}
use Rattle.sk_client.proofs.laws.accepted.Goals as goal

pub returns : goal.returns
returns c = record { stand = stores_stand; stood = stores_stood }
