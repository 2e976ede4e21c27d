-- What comes later is as it would be from the state at the end of the epoch.
use Rattle.sk_kernel.proofs.Epochs.{sound_alike, alike}
use Rattle.sk_kernel.proofs.laws.epochs.Goals as goal

pub returns-clause-sound : goal.returns-clause-sound
returns-clause-sound c = λ old new later sound done next. sound_alike old new done next later sound

pub returns-clause-alike : goal.returns-clause-alike
returns-clause-alike c = λ old new later sound done next. alike old new done next later sound
