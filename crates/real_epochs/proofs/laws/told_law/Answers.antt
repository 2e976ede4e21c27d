-- The law.
use Rattle.real_epochs.proofs.Law.{epochs_stand}
use Rattle.real_epochs.proofs.laws.told_law.Goals as goal

pub returns : goal.returns
returns c = epochs_stand
