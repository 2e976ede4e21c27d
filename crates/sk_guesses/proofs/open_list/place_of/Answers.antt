-- It is the last of those that rise.
use Rattle.sk_guesses.proofs.Names.{◌<◌, ◌-◌, ◌∙◌, length, sym, arith, eqb-true}
use Rattle.sk_guesses.proofs.Passes.{at_place}
use Rattle.sk_guesses.proofs.open_list.place_of.Goals as goal

pub returns-then-eq : goal.returns-then-eq
returns-then-eq g c =
    let ls = c.args.opens.now.items in
    let near : c.len-count.result - 1 < length ls = omega (arith, c.len-count.ensures, c.if-count-gt0.true) in
    at_place c.args.id (c.len-count.result - 1) ls c.at.result c.requires near c.at.ensures (sym c.id.ensures ∙ eqb-true c.id.result c.args.id (sym c.eq.ensures ∙ c.if-eq.true))
