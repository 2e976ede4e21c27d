-- The law, for all names and keys.
use Rattle.sk_renamed.proofs.Renaming.{all_commits}
use Rattle.sk_renamed.proofs.laws.renamed_commit.Goals as goal

pub returns : goal.returns
returns g c = all_commits
