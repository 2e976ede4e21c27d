use Rattle.sk_durable.proofs.ChannelLaws.{tickets_are_told_right}
use Rattle.sk_durable.proofs.laws.tickets_law.Goals as goal

pub returns : goal.returns
returns c = tickets_are_told_right
