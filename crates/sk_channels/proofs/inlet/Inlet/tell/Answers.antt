-- The request that the host was asked is one of those that were asked for.
use Rattle.sk_channels.proofs.Heard.{told_on}
use Rattle.sk_channels.proofs.inlet.Inlet.tell.Goals as goal

pub returns-clause-heard : goal.returns-clause-heard
returns-clause-heard c limits asked stream text has = told_on limits asked stream text c.args.self.now c.requires.posed has
