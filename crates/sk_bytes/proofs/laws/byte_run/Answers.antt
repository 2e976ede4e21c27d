-- The law is that of all step functions.
use Rattle.sk_speculator.proofs.Law.{runs_whole}
use Rattle.sk_bytes.proofs.laws.byte_run.Goals as goal

pub returns : goal.returns
returns g c = λ own. runs_whole own
