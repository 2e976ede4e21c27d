-- From the law of worlds, told of a world's calls.
use Rattle.sk_client.proofs.Steps.{stand_apart}
use Rattle.sk_client.proofs.laws.apart.Goals as goal

pub returns : goal.returns
returns c = stand_apart
