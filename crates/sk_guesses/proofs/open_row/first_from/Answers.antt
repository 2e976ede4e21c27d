-- The newest is not above it, or the half where the place may be.
use Rattle.sk_guesses.proofs.Names.{◌≡◌, ◌+◌, ◌-◌, ◌/◌, sym, subst, length, arith}
use Rattle.sk_guesses.proofs.Named.{IsFirst, begun, further, newest}
use Rattle.sk_guesses.proofs.open_row.first_from.Goals as goal
use Rattle.sk_guesses.proofs.open_row.first_from.Goals.{then-low-high+then-number, else-low-high}

pub loop-low-init : goal.loop-low-init
loop-low-init g c =
    let os = c.args.row.now.items in
    let n = c.len-high.result in
    let many : n ≡ length os = c.len-high.ensures in
    elim c.if-low-high.branch [
      | then-low-high+then-number w ↦
          subst (λ low. IsFirst os c.args.id c.args.from low n) (sym w.low-is)
          (newest os c.args.id c.args.from n w.at.result.now c.requires.rising (omega (arith, w.if-low-high.true)) many w.at.ensures
          (omega (arith, w.if-number.true, w.id.ensures, w.number.ensures.value, w.number-then-low-high.ensures.value)))
      | else-low-high w ↦ subst (λ low. IsFirst os c.args.id c.args.from low n) (sym w.low-is) (begun os c.args.id c.args.from n (omega (arith, c.requires.bound, many)) many)
    ]

pub loop-low-preserved-then-number-2 : goal.loop-low-preserved-then-number-2
loop-low-preserved-then-number-2 g c =
    further c.args.row.now.items c.args.id c.args.from c.loop-low.low c.loop-low.high (c.loop-low.low + (c.loop-low.high - c.loop-low.low) / 2) c.at-in-loop-low.result.now c.requires.rising
    (omega arith) (omega (arith, c.loop-low-test.true)) c.at-in-loop-low.ensures
    (omega (arith, c.if-number-2.true, c.id-in-loop-low.ensures, c.number-in-loop-low.ensures.value, c.number-in-loop-low-2.ensures.value)) c.loop-low.invariant
