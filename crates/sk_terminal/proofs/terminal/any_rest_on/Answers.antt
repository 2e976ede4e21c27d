-- No text before the place depends on the guess, and none from it on.
use Rattle.sk_terminal.proofs.Names.{◌≡◌, ◌-◌, ◌<◌, suc, length, take, sym, ap, subst, arith, list_any, Held}
use Rattle.sk_terminal.proofs.HeldTexts.{rests, free_before, none_rests}
use Rattle.sk_terminal.proofs.terminal.any_rest_on.Goals as goal

pub returns-else-texts-place : goal.returns-else-texts-place
returns-else-texts-place c high b =
    let hs = c.args.texts.now in
    let i = c.loop-place.place in
    let j = i - 1 in
    let some = c.loop-place-test.true in
    let within = c.loop-place.invariant.0 in
    let next : i ≡ suc j = omega arith in
    let lt : j < length hs = omega arith in
    let item = c.index-texts-place.is in
    let less : c.index-texts-place.result.newest < c.args.id = subst (λ n. c.index-texts-place.result.newest < n) c.number.ensures.value (subst (λ (y : Held). y.newest < c.number.result) (sym item) c.if-texts-place.false) in
    none_rests c.args.id i hs (free_before c.args.id 0 high i j hs c.index-texts-place.result b next lt item less) c.loop-place.invariant.1

pub returns-after-loop-place : goal.returns-after-loop-place
returns-after-loop-place c high b =
    let hs = c.args.texts.now in
    let past = c.loop-place-test.false in
    let zero_is : c.loop-place.place ≡ 0 = omega arith in
    none_rests c.args.id c.loop-place.place hs (ap (λ k. list_any (rests c.args.id) (take k hs)) zero_is) c.loop-place.invariant.1
