-- From what a ready kernel is, and the law of worlds, told of a world's calls.
use Rattle.sk_client.proofs.Steps.{first_begins, begins_again}
use Rattle.sk_client.proofs.laws.begins.Goals as goal

pub returns : goal.returns
returns c = record { first = first_begins; epoch = begins_again }
