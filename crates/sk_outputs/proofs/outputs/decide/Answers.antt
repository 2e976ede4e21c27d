-- It is put on, or taken off.
use Rattle.std.proofs.Common.{sym, ◌∙◌}
use Rattle.sk_outputs.proofs.Ready.{put_on, taken_off}
use Rattle.sk_outputs.proofs.outputs.decide.Goals as goal

pub returns-then-rests-clause-has : goal.returns-then-rests-clause-has
returns-then-rests-clause-has g c =
    taken_off c.args.output.now c.to-channel.result c.args.ready.now.channels c.take_off.new.self.channels c.to-channel.ensures (sym c.rests.ensures ∙ c.if-rests.true) c.take_off.ensures.channels

pub returns-else-rests-clause-has : goal.returns-else-rests-clause-has
returns-else-rests-clause-has g c = put_on c.args.output.now c.to-channel.result c.args.ready.now.channels c.put.new.self.channels c.to-channel.ensures (sym c.rests.ensures ∙ c.if-rests.false) c.put.ensures.has
