-- The half where the place may be.
use Rattle.sk_guesses.proofs.Names.{◌+◌, ◌-◌, ◌/◌, arith}
use Rattle.sk_guesses.proofs.Named.{lower, higher}
use Rattle.sk_guesses.proofs.open_row.count_below.Goals as goal

pub loop-low-preserved-then-number : goal.loop-low-preserved-then-number
loop-low-preserved-then-number c =
    lower c.args.ids.now c.args.id c.loop-low.low c.loop-low.high (c.loop-low.low + (c.loop-low.high - c.loop-low.low) / 2) c.index-ids-middle.result c.requires
    (omega arith) (omega (arith, c.loop-low-test.true)) c.index-ids-middle.is (omega (arith, c.if-number.true, c.number.ensures.value, c.number-in-loop-low.ensures.value)) c.loop-low.invariant

pub loop-low-preserved : goal.loop-low-preserved
loop-low-preserved c =
    higher c.args.ids.now c.args.id c.loop-low.low c.loop-low.high (c.loop-low.low + (c.loop-low.high - c.loop-low.low) / 2) c.index-ids-middle.result c.requires
    (omega arith) (omega (arith, c.loop-low-test.true)) c.index-ids-middle.is (omega (arith, c.if-number.false, c.number.ensures.value, c.number-in-loop-low.ensures.value)) c.loop-low.invariant
