-- A step asks for something, or for nothing.
use Rattle.std.proofs.Common.{◌+◌, is_some, refl}
use Rattle.sk_channels.proofs.Stepped.{asked_on, less_left, neither, some_left, nothing_asked}
use Rattle.sk_channels.proofs.inlet.Inlet.feed.Goals as goal

pub returns-then-ends : goal.returns-then-ends
returns-then-ends c limits asked stream has =
    asked_on c.args.self.now c.loop-step.self c.step.new.self c.args.bytes.now c.loop-step.rest.now
    c.behind-rest.result.now
    c.loop-step._step c.in-Ok.fed c.loop-step.invariant
    (some_left c.has_none.result _ c.has_none.ensures c.if-has_none.false)
    c.behind-rest.ensures c.in-Ok.ensures limits asked stream has

pub loop-step-preserved : goal.loop-step-preserved
loop-step-preserved c =
    let none = neither (is_some c.in-Ok.fed.asked) (is_some c.step.new.self.posed) c.ends.result c.ends.ensures
    c.if-ends.false in
    less_left c.args.self.now c.loop-step.self c.step.new.self c.args.bytes.now c.loop-step.rest.now
    c.behind-rest.result.now
    c.loop-step._step (c.loop-step._step + 1) c.in-Ok.fed c.loop-step.invariant
    (some_left c.has_none.result _ c.has_none.ensures c.if-has_none.false)
    (nothing_asked c.in-Ok.fed.asked (is_some c.in-Ok.fed.asked) refl none.0)
    none.1 c.behind-rest.ensures
    c.in-Ok.ensures
