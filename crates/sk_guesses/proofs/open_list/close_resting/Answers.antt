-- At the front of all a filter of them is left.
use Rattle.sk_guesses.proofs.Names.{◌≡◌, ◌++◌, ◌∙◌, length, take, drop, ap, map, not, arith, filter, has, OpenGuess}
use Rattle.sk_guesses.proofs.Names.{Listing}
use Rattle.sk_guesses.proofs.Opens.{guess_of, seen_filter}
use Rattle.sk_guesses.proofs.Passes.{fewer, rest_of_all}
use Rattle.sk_guesses.proofs.open_list.close_resting.Goals as goal

pub returns-clause-opens : goal.returns-clause-opens
returns-clause-opens g c =
    let os = c.args.opens.now.items in
    let first : c.loop-back.back ≡ c.args.from = omega (arith, c.loop-back-test.false, c.loop-back.invariant.2) in
    ap (map guess_of) (c.loop-back.invariant.0 ∙ (λ j. take (first j) os ++ filter (λ (x : Listing _). not (has c.args.id x.guess.tags)) (drop (first j) os)) ∙ rest_of_all c.args.id c.args.from os c.requires.none_before c.requires.bound)
    ∙ seen_filter guess_of (λ (o : OpenGuess _). not (has c.args.id o.tags)) os

pub returns-clause-fewer : goal.returns-clause-fewer
returns-clause-fewer g c =
    let os = c.args.opens.now.items in
    let first : c.loop-back.back ≡ c.args.from = omega (arith, c.loop-back-test.false, c.loop-back.invariant.2) in
    let as_long = ap length (c.loop-back.invariant.0 ∙ (λ j. take (first j) os ++ filter (λ (x : Listing _). not (has c.args.id x.guess.tags)) (drop (first j) os)) ∙ rest_of_all c.args.id c.args.from os c.requires.none_before c.requires.bound) in
    let no_more = fewer (λ (x : Listing _). not (has c.args.id x.guess.tags)) os in
    omega (arith, as_long, no_more)
