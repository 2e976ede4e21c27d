-- An entity that has a slot then had one, so its directory has a number.
use Rattle.sk_undo.proofs.NameCounts.{few_fit, unwound_counted}
use Rattle.sk_undo.proofs.logs.Logs.unwind_at.Goals as goal

pub recount-requires : goal.recount-requires
recount-requires c = few_fit c.self.inside.slots c.self.inside.names c.args.entity.now c.most_names-most.result c.self.invariant c.most_names-most.ensures.most c.most_names-most.ensures.small

pub invariant_of-self : goal.invariant_of-self
invariant_of-self c =
    unwound_counted c.self.inside.slots c.unwind_at.new.self c.args.entity.now c.self.inside.names c.self.invariant c.args.guess c.recount.new.self
    c.link_there-was.result c.link_there-is.result c.unwind_at.ensures c.link_there-was.ensures c.link_there-is.ensures c.recount.ensures
