use Rattle.sk_requests.proofs.Arrays.{fault_is_final}
use Rattle.sk_requests.proofs.laws.fault_law.Goals as goal

pub returns : goal.returns
returns c = fault_is_final
