-- What had no slot has none again, and what had one has its directory's number.
use Rattle.sk_undo.proofs.Cites.{sym, subst, LogsView, CanTakeBack}
use Rattle.sk_undo.specs.Logs.{BackView}
use Rattle.sk_undo.proofs.NameCounts.{few_fit, back_counted}
use Rattle.sk_undo.proofs.logs.LogsKeeper.take_back.Goals as goal

pub recount-requires : goal.recount-requires
recount-requires c = few_fit c.self.inside.slots c.self.inside.names c.back.inside.entity c.most_names-most.result c.self.invariant c.most_names-most.ensures.most c.most_names-most.ensures.small

pub invariant_of-self : goal.invariant_of-self
invariant_of-self c =
    let there = subst (λ (b : BackView). CanTakeBack c.args.self.now.slots b.entity b.how) (sym c.back.view_is) c.requires in
    let can = subst (λ (l : LogsView). CanTakeBack l.slots c.back.inside.entity c.back.inside.how) (sym c.self.view_is) there in
    back_counted c.self.inside.slots c.take_back.new.self c.back.inside.entity c.self.inside.names c.self.invariant c.back.inside.how c.recount.new.self
    c.link_there-was.result c.link_there-is.result can c.take_back.ensures c.link_there-was.ensures c.link_there-is.ensures c.recount.ensures
