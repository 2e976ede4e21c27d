use Rattle.sk_requests.proofs.Streams.{go_on}
use Rattle.sk_requests.proofs.laws.on_law.Goals as goal

pub returns : goal.returns
returns c = go_on
