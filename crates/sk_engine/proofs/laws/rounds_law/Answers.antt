use Rattle.sk_engine.proofs.RoundRuns.{told_behind_a_round}
use Rattle.sk_engine.proofs.laws.rounds_law.Goals as goal

pub returns : goal.returns
returns c = told_behind_a_round
