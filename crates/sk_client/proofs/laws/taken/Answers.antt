-- From the law of worlds, told of a world's calls.
use Rattle.sk_client.proofs.Steps.{steps_are_taken, forgotten_are_dropped}
use Rattle.sk_client.proofs.laws.taken.Goals as goal

pub returns : goal.returns
returns c = record { steps = steps_are_taken; forgotten = forgotten_are_dropped }
