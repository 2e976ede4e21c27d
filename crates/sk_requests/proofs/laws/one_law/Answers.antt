use Rattle.sk_requests.proofs.Arrays.{one_request}
use Rattle.sk_requests.proofs.laws.one_law.Goals as goal

pub returns : goal.returns
returns c = one_request
