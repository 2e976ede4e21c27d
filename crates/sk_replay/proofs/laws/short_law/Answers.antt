use Rattle.sk_replay.proofs.Short.{short_is_within}
use Rattle.sk_replay.proofs.laws.short_law.Goals as goal

pub returns : goal.returns
returns c = short_is_within
