use Rattle.sk_recovered.proofs.Snapshots.{snapshots_read}
use Rattle.sk_recovered.proofs.laws.snapshot_law.Goals as goal

pub returns : goal.returns
returns c = snapshots_read
