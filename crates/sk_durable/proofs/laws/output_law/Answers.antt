use Rattle.sk_durable.proofs.ChannelLaws.{channels_let_go_just_what_may}
use Rattle.sk_durable.proofs.laws.output_law.Goals as goal

pub returns : goal.returns
returns c = channels_let_go_just_what_may
