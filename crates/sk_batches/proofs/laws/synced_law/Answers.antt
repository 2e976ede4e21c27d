use Rattle.sk_batches.proofs.Synced.{logs_what_is_synced}
use Rattle.sk_batches.proofs.laws.synced_law.Goals as goal

pub returns : goal.returns
returns c = logs_what_is_synced
