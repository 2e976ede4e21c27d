-- From the law of worlds, told of a world's calls.
use Rattle.sk_client.proofs.Steps.{places_kept}
use Rattle.sk_client.proofs.laws.places.Goals as goal

pub returns : goal.returns
returns c = places_kept
