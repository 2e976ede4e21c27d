-- From the laws of worlds, told of a world's calls.
use Rattle.sk_client.proofs.Steps.{steps_are_replied, replied_once}
use Rattle.sk_client.proofs.laws.replied.Goals as goal

pub returns : goal.returns
returns c = record { steps = steps_are_replied; replies = replied_once }
