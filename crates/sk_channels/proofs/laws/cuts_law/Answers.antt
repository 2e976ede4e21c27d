use Rattle.sk_channels.proofs.Cuts.{cuts_dont_matter}
use Rattle.sk_channels.proofs.laws.cuts_law.Goals as goal

pub returns : goal.returns
returns c = cuts_dont_matter
