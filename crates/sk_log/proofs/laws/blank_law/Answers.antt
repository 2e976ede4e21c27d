use Rattle.sk_log.proofs.Blanked.{blanking_keeps}
use Rattle.sk_log.proofs.laws.blank_law.Goals as goal

pub returns : goal.returns
returns c = blanking_keeps
