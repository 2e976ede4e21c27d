-- The list at the hint is the guess's, and so the first that is.
use Rattle.sk_terminal.proofs.Names.{sym, ◌∙◌, eqb-true}
use Rattle.sk_terminal.proofs.Listed.{place_of_own}
use Rattle.sk_terminal.proofs.listing.place_from.Goals as goal

pub returns-in-Some : goal.returns-in-Some
returns-in-Some c =
    let list = c.in-Some.list.now in
    let own = eqb-true list.guess c.args.guess (sym c.eq.ensures ∙ c.if-eq.true) in
    place_of_own c.args.guess c.args.hint c.args.lists.now list c.in-Some.ensures.lookup.3.0 c.in-Some.ensures.lookup.1 own c.requires
