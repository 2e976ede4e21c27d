-- Event after event.
use Rattle.sk_client.proofs.Steps.{all_are_written}
use Rattle.sk_client.proofs.laws.files.Goals as goal

pub returns : goal.returns
returns c = λ w es served last h. all_are_written w es served last h
