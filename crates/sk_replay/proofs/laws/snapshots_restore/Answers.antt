-- Each key comes last.
use Rattle.sk_replay.proofs.Restored.{restored}
use Rattle.sk_replay.proofs.laws.snapshots_restore.Goals as goal

pub returns : goal.returns
returns c = restored
