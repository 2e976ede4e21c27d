-- A text whose number is below the guess, and those before it, do not depend on it.
use Rattle.sk_terminal.proofs.Names.{◌≡◌, ◌-◌, ◌<◌, suc, length, sym, subst, arith, Held}
use Rattle.sk_terminal.proofs.HeldTexts.{free_before}
use Rattle.sk_terminal.proofs.terminal.may_rest_before.Goals as goal

pub returns-then-texts-place : goal.returns-then-texts-place
returns-then-texts-place c high b _ =
    let hs = c.args.texts.now in
    let i = c.args.place in
    let j = i - 1 in
    let some = c.if-place-eq0.false in
    let within = c.requires in
    let next : i ≡ suc j = omega arith in
    let lt : j < length hs = omega arith in
    let item = c.index-texts-place.is in
    let less : c.index-texts-place.result.newest < c.args.id = subst (λ n. c.index-texts-place.result.newest < n) c.number.ensures.value (subst (λ (y : Held). y.newest < c.number.result) (sym item) c.if-texts-place.true) in
    free_before c.args.id 0 high i j hs c.index-texts-place.result b next lt item less
