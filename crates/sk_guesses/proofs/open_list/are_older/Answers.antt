-- The newest was drawn before it.
use Rattle.sk_guesses.proofs.Names.{◌<◌, ◌-◌, ◌∙◌, ap, length, arith, slice_index_or, ltb-true}
use Rattle.sk_guesses.proofs.Older.{rests_none}
use Rattle.sk_guesses.proofs.open_list.are_older.Goals as goal

pub returns : goal.returns
returns g c = λ is.
    let ls = c.args.opens.now.items in
    let newest = c.at.result in
    let some : 0 < length ls = omega (arith, c.if-len-eq0.false, c.len.ensures) in
    rests_none c.args.id ls newest c.requires.rising (c.requires.below c.if-not-below.false) some
    (c.at.ensures ∙ ap (λ n. slice_index_or ls (n - 1) newest) c.len-2.ensures)
    (let less : c.number.result < c.number-2.result = ltb-true c.number.result c.number-2.result is in
    omega (less, c.id.ensures, c.number.ensures.value, c.number-2.ensures.value, arith))
