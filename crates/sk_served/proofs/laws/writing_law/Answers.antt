use Rattle.sk_served.proofs.Writing.{writing_is_all}
use Rattle.sk_served.proofs.laws.writing_law.Goals as goal

pub returns : goal.returns
returns c = writing_is_all
