-- The law, for all names and keys.
use Rattle.sk_renamed.proofs.Renaming.{all_fails}
use Rattle.sk_renamed.proofs.laws.renamed_failure.Goals as goal

pub returns : goal.returns
returns g c = all_fails
