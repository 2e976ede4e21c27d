-- A text said to a terminal that is there: from the loan of `Map::get_mut` and what `Terminal::say_lent` leaves.
use Rattle.sk_terminal.proofs.Names.{◌≡◌, ap, sym, ◌∙◌, Some, rules, on_err_weaker, nat_cmp, seen}
use Rattle.std.specs.FinMap as map
use Rattle.sk_terminal.proofs.TerminalMaps.{put_same}
use Rattle.sk_terminal.proofs.numbered.Numbered.say.Goals as goal

pub returns-in-Some-clause-ok : goal.returns-in-Some-clause-ok
returns-in-Some-clause-ok c =
    let w = c.say_lent.new.self in
    let lent : seen nat_cmp (c.get_mut.follows.lender w) ≡ map.insert (seen nat_cmp c.self.inside.terminals) c.args.number w = rw c.in-Some.is at (c.get_mut.follows.holds w) in
    let whole : seen nat_cmp (c.get_mut.follows.lender w) ≡ map.insert c.args.self.now c.args.number w = lent ∙ ap (λ m. map.insert m c.args.number w) c.self.view_is in
    let found = c.in-Some.ensures.value ∙ ap (λ m. map.get m c.args.number) c.self.view_is in
    search (rules, whole, found)

pub returns-in-Some-clause-err : goal.returns-in-Some-clause-err
returns-in-Some-clause-err c =
    let w = c.say_lent.new.self in
    let lent : seen nat_cmp (c.get_mut.follows.lender w) ≡ map.insert (seen nat_cmp c.self.inside.terminals) c.args.number w = rw c.in-Some.is at (c.get_mut.follows.holds w) in
    let found = c.in-Some.ensures.value ∙ ap (λ m. map.get m c.args.number) c.self.view_is in
    on_err_weaker c.say_lent.result
    (λ same. lent ∙ ap (λ m. map.insert m c.args.number w) c.self.view_is ∙ put_same c.args.self.now c.args.number w (sym found ∙ ap Some (sym same)))
    c.say_lent.ensures.refused
