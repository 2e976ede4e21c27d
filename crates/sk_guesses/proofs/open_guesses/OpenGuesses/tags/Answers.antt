-- The set at the place is the guess's, or there is none.
use Rattle.sk_guesses.proofs.Names.{◌<◌, ◌≤◌, length, Some, ◌∙◌, ap, arith, guess_tags, opens_of, Kept}
use Rattle.sk_guesses.proofs.Opens.{found_tags, missing_tags}
use Rattle.sk_guesses.proofs.open_guesses.OpenGuesses.tags.Goals as goal

pub returns-then-place-len : goal.returns-then-place-len
returns-then-place-len g c =
    let far : length c.self.inside.opens.items ≤ c.place_of-place.result = omega (arith, c.if-place-len.true, c.len.ensures) in
    missing_tags c.args.id c.place_of-place.result c.self.inside.opens.items c.place_of-place.ensures far
    ∙ ap (λ (g : Kept _). guess_tags c.args.id (opens_of g.opens)) c.self.view_is

pub returns : goal.returns
returns g c =
    let near : c.place_of-place.result < length c.self.inside.opens.items = omega (arith, c.if-place-len.false, c.len.ensures) in
    ap Some c.tags.ensures
    ∙ found_tags c.args.id c.place_of-place.result c.self.inside.opens.items c.at.result c.place_of-place.ensures near c.at.ensures
    ∙ ap (λ (g : Kept _). guess_tags c.args.id (opens_of g.opens)) c.self.view_is

pub place_of-place-requires : goal.place_of-place-requires
place_of-place-requires g c = c.self.invariant.0.rising
