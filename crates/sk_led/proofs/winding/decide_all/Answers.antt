-- One batch more is decided.
use Rattle.sk_led.proofs.Names.{Decides, StoreDoes}
use Rattle.sk_led.proofs.Last.{decides_fewer, decides_more}
use Rattle.sk_led.proofs.winding.decide_all.Goals as goal

pub loop-outcome-preserved : goal.loop-outcome-preserved
loop-outcome-preserved c =
    let does : StoreDoes c.loop-outcome.store (Decides c.in-Some._outcome) c.decide.new.self = c.in-Some.ensures in
    decides_more c.args.store.now c.loop-outcome.store c.decide.new.self c.in-Some._outcome c.loop-outcome.invariant does

pub loop-outcome-smaller : goal.loop-outcome-smaller
loop-outcome-smaller c =
    let does : StoreDoes c.loop-outcome.store (Decides c.in-Some._outcome) c.decide.new.self = c.in-Some.ensures in
    decides_fewer c.loop-outcome.store c.decide.new.self c.in-Some._outcome does
