-- The law is that of filters in either order.
use Rattle.sk_rests.proofs.Idle.{part_is_kept}
use Rattle.sk_rests.proofs.laws.part_kept.Goals as goal

pub returns : goal.returns
returns g c = part_is_kept _ _
