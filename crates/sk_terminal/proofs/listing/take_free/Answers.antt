-- Where it is free it goes.
use Rattle.sk_terminal.proofs.Names.{true, false, sym, ◌∙◌, ap, has, rests_at}
use Rattle.sk_terminal.proofs.Listed.{refreshed}
use Rattle.sk_terminal.proofs.listing.take_free.Goals as goal

pub returns-then-is_free-clause-left : goal.returns-then-is_free-clause-left
returns-then-is_free-clause-left c t =
    let g = c.args.list.now.guess in
    ap (has t) c.without.ensures ∙ refreshed c.args.number t c.args.list.now.terminals (rests_at g c.args.numbered.now) true (sym c.if-is_free.true ∙ c.is_free.ensures)

pub returns-else-is_free-clause-left : goal.returns-else-is_free-clause-left
returns-else-is_free-clause-left c t =
    let g = c.args.list.now.guess in
    refreshed c.args.number t c.args.list.now.terminals (rests_at g c.args.numbered.now) false (sym c.if-is_free.false ∙ c.is_free.ensures)
