use Rattle.std.proofs.Common.{rules}
use Rattle.sk_workers.proofs.shared.Shared.close.Goals as goal

pub returns-in-Err-clause-refused : goal.returns-in-Err-clause-refused
returns-in-Err-clause-refused g c = (c.into_inner.result, search rules, search rules)
