-- The half where the guess may stand.
use Rattle.sk_guesses.proofs.Names.{◌≢◌, ◌<◌, ◌+◌, ◌-◌, length, sym, ◌∙◌, arith, ◌/◌, true≢false, eqb-true, eq-eqb}
use Rattle.sk_guesses.proofs.Passes.{at_place, further_back, further_on, nowhere}
use Rattle.sk_guesses.proofs.open_list.search.Goals as goal

pub returns-then-eq : goal.returns-then-eq
returns-then-eq g c =
    let near : c.loop-low.low + (c.loop-low.high - c.loop-low.low) / 2 < length c.args.opens.now.items = omega (arith, c.loop-low-test.true, c.loop-low.invariant.within) in
    at_place c.args.id (c.loop-low.low + (c.loop-low.high - c.loop-low.low) / 2) c.args.opens.now.items c.at.result c.requires near c.at.ensures (sym c.id-other.ensures ∙ eqb-true c.id-other.result c.args.id (sym c.eq.ensures ∙ c.if-eq.true))

pub loop-low-preserved-then-number : goal.loop-low-preserved-then-number
loop-low-preserved-then-number g c =
    let near : c.loop-low.low + (c.loop-low.high - c.loop-low.low) / 2 < length c.args.opens.now.items = omega (arith, c.loop-low-test.true, c.loop-low.invariant.within) in
    let less : c.number.result < c.number-in-loop-low.result = omega (arith, c.if-number.true) in
    further_on c.args.opens.now.items c.args.id c.loop-low.low c.loop-low.high (c.loop-low.low + (c.loop-low.high - c.loop-low.low) / 2) c.at.result c.requires near c.at.ensures
    (omega (arith, less, c.id-other.ensures, c.number.ensures.value, c.number-in-loop-low.ensures.value)) c.loop-low.invariant

pub loop-low-preserved : goal.loop-low-preserved
loop-low-preserved g c =
    let near : c.loop-low.low + (c.loop-low.high - c.loop-low.low) / 2 < length c.args.opens.now.items = omega (arith, c.loop-low-test.true, c.loop-low.invariant.within) in
    let apart : c.id-other.result ≢ c.args.id = λ same. true≢false (sym (eq-eqb c.id-other.result c.args.id same) ∙ sym c.eq.ensures ∙ c.if-eq.false) in
    further_back c.args.opens.now.items c.args.id c.loop-low.low c.loop-low.high (c.loop-low.low + (c.loop-low.high - c.loop-low.low) / 2) c.at.result c.requires near c.at.ensures
    (omega (arith, c.if-number.false, c.id-other.ensures, c.number.ensures.value, c.number-in-loop-low.ensures.value, apart)) c.loop-low.invariant

pub returns : goal.returns
returns g c = omega (arith, c.len.ensures, nowhere c.args.opens.now.items c.args.id c.loop-low.low c.loop-low.high (omega (arith, c.loop-low-test.false)) c.loop-low.invariant)
