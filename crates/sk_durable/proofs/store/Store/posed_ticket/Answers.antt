-- The channel is there, and is asked, or not.
use Rattle.sk_durable.proofs.Names.{◌≡◌, None, Some, rules, posed_ticket, channel_at}
use Rattle.sk_durable.proofs.store.Store.posed_ticket.Goals as goal

pub returns-in-Some-posed_ticket : goal.returns-in-Some-posed_ticket
returns-in-Some-posed_ticket c =
    let there : channel_at c.args.self.now.channels c.args.channel ≡ Some c.in-Some.from.now = search rules in
    let posed : posed_ticket c.in-Some.from.now.inlet ≡ Some c.in-Some-posed_ticket.ticket = search rules in
    (c.in-Some.from.now, there, posed)

pub returns-in-None : goal.returns-in-None
returns-in-None c =
    let there : channel_at c.args.self.now.channels c.args.channel ≡ Some c.in-Some.from.now = search rules in
    let none : posed_ticket c.in-Some.from.now.inlet ≡ None = search rules in
    (c.in-Some.from.now, there, none)
