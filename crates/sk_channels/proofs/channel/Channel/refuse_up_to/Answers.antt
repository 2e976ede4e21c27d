-- The tickets before it were given.
use Rattle.std.proofs.Common.{arith}
use Rattle.sk_channels.proofs.Served.{refused_on}
use Rattle.sk_channels.proofs.channel.Channel.refuse_up_to.Goals as goal

pub returns-clause-told : goal.returns-clause-told
returns-clause-told c limits asked stream told handed has =
    refused_on limits asked stream told handed c.args.ticket c.refuse_up_to.result c.args.self.now
    c.refuse_up_to.new.self
    (omega (arith, c.if-next-ticket.false, c.next.ensures)) has (c.refuse_up_to.ensures.told told handed has.said)
