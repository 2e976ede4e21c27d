-- Its ticket was given.
use Rattle.sk_channels.proofs.Names.{Text, Say, Do}
use Rattle.sk_channels.proofs.Served.{asked_more}
use Rattle.sk_channels.proofs.channel.Channel.tell.Goals as goal

pub returns-clause-served : goal.returns-clause-served
returns-clause-served c limits asked stream told handed text has =
    asked_more limits asked stream told handed (Do (Say (Text text))) c.args.self.now c.tell.new.self has
    (c.tell.ensures.heard limits asked stream text has.heard)
