use Rattle.sk_crashed.proofs.Snapshots.{snapshots_are_recovered, snapshots_stand_for}
use Rattle.sk_crashed.proofs.laws.snapshots_law.Goals as goal

pub returns-clause-same : goal.returns-clause-same
returns-clause-same c = snapshots_stand_for

pub returns-clause-lives : goal.returns-clause-lives
returns-clause-lives c = snapshots_are_recovered
