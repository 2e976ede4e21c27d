-- What had no slot gets none, and what had one has its directory's number.
use Rattle.sk_undo.proofs.Cites.{ap, ◌∙◌, LogsView}
use Rattle.sk_undo.proofs.NameCounts.{few_fit, gone_counted}
use Rattle.sk_undo.proofs.logs.Logs.clear_untagged.Goals as goal

pub recount-requires : goal.recount-requires
recount-requires c = few_fit c.self.inside.slots c.self.inside.names c.args.entity.now c.most_names-most.result c.self.invariant c.most_names-most.ensures.most c.most_names-most.ensures.small

pub invariant_of-self-2 : goal.invariant_of-self-2
invariant_of-self-2 c =
    gone_counted c.self.inside.slots c.clear.new.self c.args.entity.now c.self.inside.names c.self.invariant c.self.inside.tags c.recount.new.self c.in_ok-was.was'
    (ap (λ (l : LogsView). l.tags) c.self.view_is ∙ c.requires) c.in_ok-was.ensures.was c.in_ok-was.ensures.ok c.recount.ensures
