use Rattle.sk_requests.proofs.Apart.{one_fault}
use Rattle.sk_requests.proofs.laws.one_fault_law.Goals as goal

pub returns : goal.returns
returns c = one_fault
