-- It has another to take, or none.
use Rattle.std.proofs.Common.{sym, ◌∙◌}
use Rattle.sk_outputs.proofs.Ready.{ready_no_more, still_ready}
use Rattle.sk_outputs.proofs.outputs.take_off_last.Goals as goal

pub returns-then-not-has_next-clause-ready : goal.returns-then-not-has_next-clause-ready
returns-then-not-has_next-clause-ready g c =
    ready_no_more c.args.said.now.items c.args.to c.args.ready.now.channels c.take_off.new.self.channels c.requires.others (sym c.has_next.ensures ∙ c.if-not-has_next.true) c.take_off.ensures.channels

pub returns-else-not-has_next-clause-ready : goal.returns-else-not-has_next-clause-ready
returns-else-not-has_next-clause-ready g c =
    still_ready c.args.said.now.items c.args.to c.args.ready.now.channels c.requires.others c.requires.there (sym c.has_next.ensures ∙ c.if-not-has_next.false)
