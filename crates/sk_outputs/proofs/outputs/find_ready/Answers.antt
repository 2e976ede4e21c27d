-- Each output decides over those behind it.
use Rattle.sk_outputs.proofs.Names.{◌≡◌, ◌<◌, zero, suc, length, drop, subst, arith, AreReady}
use Rattle.std.proofs.Common.{◌-◌}
use Rattle.sk_outputs.proofs.Ready.{decided}
use Rattle.sk_outputs.proofs.outputs.find_ready.Goals as goal

pub decide-requires : goal.decide-requires
decide-requires g c = omega (arith, c.loop-place-test.true, c.loop-place.invariant.1, c.loop-place.invariant.2)

pub loop-place-preserved : goal.loop-place-preserved
loop-place-preserved g c =
    let xs = c.args.said.now.items in
    let p = c.loop-place.place - 1 in
    let old = c.loop-place.ready.channels in
    let one : c.loop-place.place ≡ suc p = omega (arith, c.loop-place-test.true) in
    let near : p < length xs = omega (arith, c.loop-place-test.true, c.loop-place.invariant.1) in (
      decided xs p c.index.result.now near c.index.ensures old c.decide.new.ready.channels (subst (λ n. AreReady (drop n xs) old) one c.loop-place.invariant.0) c.decide.ensures.has,
      omega (arith, c.loop-place-test.true, c.loop-place.invariant.1, c.decide.ensures.count),
      omega (arith, c.loop-place.invariant.2, c.decide.ensures.places),
      omega (arith, c.loop-place.invariant.3, c.decide.ensures.places),
    )

pub returns-clause-ready : goal.returns-clause-ready
returns-clause-ready g c =
    let none : c.loop-place.place ≡ zero = omega (arith, c.loop-place-test.false) in
    subst (λ n. AreReady (drop n c.args.said.now.items) c.loop-place.ready.channels) none c.loop-place.invariant.0
