-- The list at the place is the guess's, or there is none.
use Rattle.sk_guesses.proofs.Names.{◌<◌, ◌≤◌, length, map, sym, ◌∙◌, ap, arith, dependents_of, opens_of, Kept, KeptView}
use Rattle.sk_guesses.proofs.Names.{known}
use Rattle.std.specs.List.Sorted.{IsStrictlySortedBy}
use Rattle.sk_guesses.proofs.Kept.{not_known}
use Rattle.sk_guesses.proofs.Opens.{guess_of, found, missing, none_there}
use Rattle.sk_guesses.proofs.open_guesses.OpenGuesses.dependents.Goals as goal

pub returns-then-place-len-clause-value : goal.returns-then-place-len-clause-value
returns-then-place-len-clause-value g c =
    let far : length c.self.inside.opens.items ≤ c.place_of-place.result = omega (arith, c.if-place-len.true, c.len.ensures) in
    missing c.args.id c.place_of-place.result c.self.inside.opens.items c.place_of-place.ensures far
    ∙ ap (λ (g : Kept _). dependents_of c.args.id g.opens) c.self.view_is

pub returns-then-place-len-clause-rising : goal.returns-then-place-len-clause-rising
unfolding IsStrictlySortedBy
returns-then-place-len-clause-rising g c = tt

pub returns-clause-value : goal.returns-clause-value
returns-clause-value g c =
    let near : c.place_of-place.result < length c.self.inside.opens.items = omega (arith, c.if-place-len.false, c.len.ensures) in
    c.dependents.ensures.value
    ∙ found c.args.id c.place_of-place.result c.self.inside.opens.items c.at.result c.place_of-place.ensures near c.at.ensures
    ∙ ap (λ (g : Kept _). dependents_of c.args.id g.opens) c.self.view_is

pub returns-clause-none : goal.returns-clause-none
returns-clause-none g c = λ other.
    let v : KeptView = record { kernel = c.self.inside.kernel; limit = c.self.inside.limit; drawn = c.self.inside.drawn; struck = c.self.inside.struck.items } in
    let os = map guess_of c.self.inside.opens.items in
    let near : c.place_of-place.result < length c.self.inside.opens.items = omega (arith, c.if-place-len.false, c.len.ensures) in
    c.dependents.ensures.value
    ∙ found c.args.id c.place_of-place.result c.self.inside.opens.items c.at.result c.place_of-place.ensures near c.at.ensures
    ∙ none_there c.args.id os
    (not_known v (opens_of os) c.args.id (λ is. other (ap (λ (g : Kept _). known g.view (opens_of g.opens) c.args.id) (sym c.self.view_is) ∙ is)))

pub place_of-place-requires : goal.place_of-place-requires
place_of-place-requires g c = c.self.invariant.0.rising
