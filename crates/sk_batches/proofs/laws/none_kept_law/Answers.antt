use Rattle.sk_batches.proofs.Synced.{none_is_kept}
use Rattle.sk_batches.proofs.laws.none_kept_law.Goals as goal

pub returns : goal.returns
returns c = none_is_kept
