use Rattle.sk_crashed.proofs.Disks.{disks_are_recovered}
use Rattle.sk_crashed.proofs.laws.recovery_law.Goals as goal

pub returns : goal.returns
returns c = disks_are_recovered
