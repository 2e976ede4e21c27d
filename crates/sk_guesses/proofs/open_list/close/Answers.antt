-- The one at its place goes, or there is none.
use Rattle.std.proofs.Common.{◌<◌, ◌≤◌, length, ◌∙◌, ap, map, arith}
use Rattle.sk_guesses.proofs.Opens.{guess_of}
use Rattle.sk_guesses.proofs.Passes.{but_found, but_missing}
use Rattle.sk_guesses.proofs.open_list.close.Goals as goal

pub returns-then-place-len-clause-opens : goal.returns-then-place-len-clause-opens
returns-then-place-len-clause-opens g c =
    let near : c.place_of-place.result < length c.args.opens.now.items = omega (arith, c.if-place-len.true, c.len.ensures) in
    ap (map guess_of) c.remove.ensures.items ∙ but_found c.args.id c.place_of-place.result c.args.opens.now.items c.requires c.place_of-place.ensures near

pub returns-else-place-len-clause-opens : goal.returns-else-place-len-clause-opens
returns-else-place-len-clause-opens g c =
    let far : length c.args.opens.now.items ≤ c.place_of-place.result = omega (arith, c.if-place-len.false, c.len.ensures) in
    but_missing c.args.id c.place_of-place.result c.args.opens.now.items c.place_of-place.ensures far
