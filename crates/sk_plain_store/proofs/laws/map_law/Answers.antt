use Rattle.sk_plain_store.proofs.Kept.{holds_written}
use Rattle.sk_plain_store.proofs.laws.map_law.Goals as goal

pub returns : goal.returns
returns c = holds_written
