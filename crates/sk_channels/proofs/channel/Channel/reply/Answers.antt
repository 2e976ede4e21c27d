-- The ticket was given and told nothing.
use Rattle.std.proofs.Common.{arith}
use Rattle.sk_channels.proofs.Served.{replied}
use Rattle.sk_channels.proofs.channel.Channel.reply.Goals as goal

pub returns-clause-told : goal.returns-clause-told
returns-clause-told c limits asked stream told handed has =
    replied limits asked stream told handed c.args.ticket c.args.text.now c.tell.result c.args.self.now c.tell.new.self
    (omega (arith, c.if-ticket-next.false, c.next.ensures))
    (omega (arith, c.if-next-ticket.false, c.next-else-ticket-next.ensures)) has
    (c.tell.ensures.told told handed has.said)
