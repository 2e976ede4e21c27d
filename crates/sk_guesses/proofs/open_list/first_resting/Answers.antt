-- A tag is at most its guess's number.
use Rattle.std.proofs.Common.{◌<◌, length, arith}
use Rattle.sk_guesses.proofs.Passes.{unmarked}
use Rattle.sk_guesses.proofs.open_list.first_resting.Goals as goal

pub returns-then-place-len-clause-none_before : goal.returns-then-place-len-clause-none_before
returns-then-place-len-clause-none_before g c =
    let near : c.place_of-place.result < length c.args.opens.now.items = omega (arith, c.if-place-len.true, c.len.ensures) in
    unmarked c.args.id c.place_of-place.result c.args.opens.now.items c.requires.rising (c.requires.below c.if-below.true) c.place_of-place.ensures near
