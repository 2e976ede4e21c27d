use Rattle.sk_engine.proofs.Runs.{decided_stays, decided_is_sent}
use Rattle.sk_engine.proofs.laws.decided_law.Goals as goal

pub returns-clause-stays : goal.returns-clause-stays
returns-clause-stays c = decided_stays

pub returns-clause-sent : goal.returns-clause-sent
returns-clause-sent c = decided_is_sent
