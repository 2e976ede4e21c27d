use Rattle.sk_requests.proofs.Streams.{parts_are_none}
use Rattle.sk_requests.proofs.laws.part_law.Goals as goal

pub returns : goal.returns
returns c = parts_are_none
