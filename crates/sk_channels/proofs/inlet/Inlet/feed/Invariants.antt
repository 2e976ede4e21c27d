use Rattle.sk_channels.proofs.Stepped.{IsLeft}
use Rattle.sk_channels.proofs.inlet.Inlet.feed.Given as goal

abbrev pub invariant-loop-step : goal.invariant-loop-step
invariant-loop-step l = IsLeft l.initial.self l.self l.bytes l.rest l._step
