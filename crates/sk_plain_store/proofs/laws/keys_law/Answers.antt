use Rattle.sk_plain_store.proofs.Kept.{knows}
use Rattle.sk_plain_store.proofs.laws.keys_law.Goals as goal

pub returns : goal.returns
returns c = knows
