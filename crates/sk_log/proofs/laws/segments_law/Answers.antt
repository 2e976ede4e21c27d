use Rattle.sk_log.proofs.Segments.{segments_join}
use Rattle.sk_log.proofs.laws.segments_law.Goals as goal

pub returns : goal.returns
returns c = segments_join
