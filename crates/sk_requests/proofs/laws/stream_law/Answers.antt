use Rattle.sk_requests.proofs.Streams.{read_once}
use Rattle.sk_requests.proofs.laws.stream_law.Goals as goal

pub returns : goal.returns
returns c = read_once
