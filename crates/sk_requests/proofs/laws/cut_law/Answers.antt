use Rattle.sk_requests.proofs.Streams.{cuts_dont_matter}
use Rattle.sk_requests.proofs.laws.cut_law.Goals as goal

pub returns : goal.returns
returns c = cuts_dont_matter
