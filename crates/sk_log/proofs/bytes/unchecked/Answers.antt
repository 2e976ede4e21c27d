use Rattle.sk_log.proofs.Names.{refl}
use Rattle.sk_log.specs.Frame.{digits}
use Rattle.sk_log.proofs.bytes.unchecked.Goals as goal

pub returns : goal.returns
unfolding digits
returns c = refl
