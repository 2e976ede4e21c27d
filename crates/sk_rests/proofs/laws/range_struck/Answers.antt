-- The law is that of more guesses that fail.
use Rattle.sk_rests.proofs.Ends.{range_struck}
use Rattle.sk_rests.proofs.laws.range_struck.Goals as goal

pub returns : goal.returns
returns g c = range_struck _ _
