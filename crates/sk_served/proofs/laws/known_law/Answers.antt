use Rattle.sk_served.proofs.Known.{more_known, store_knows}
use Rattle.sk_served.proofs.laws.known_law.Goals as goal

pub returns-clause-more : goal.returns-clause-more
returns-clause-more c = more_known

pub returns-clause-plain : goal.returns-clause-plain
returns-clause-plain c = store_knows
