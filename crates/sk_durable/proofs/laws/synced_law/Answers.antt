use Rattle.sk_durable.proofs.OnDisk.{logged_is_on_disk}
use Rattle.sk_durable.proofs.laws.synced_law.Goals as goal

pub returns : goal.returns
returns c = logged_is_on_disk
