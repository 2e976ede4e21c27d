-- The number of the directory is made before the write, and counts the name after it.
use Rattle.sk_undo.proofs.Cites.{None, sym, subst, SlotMap, IsCounted}
use Rattle.sk_undo.proofs.NameCounts.{counted_made, few_fit, wrote_counted}
use Rattle.sk_undo.proofs.logs.Logs.clear.Goals as goal

pub recount-requires : goal.recount-requires
recount-requires c =
    let counted : IsCounted c.self.inside.slots c.make_for.new.self =
    subst (IsCounted c.self.inside.slots) (sym c.in_ok-make_for.ensures.ok) (counted_made c.self.inside.slots c.self.inside.names c.args.entity.now c.self.invariant) in
    few_fit c.self.inside.slots c.make_for.new.self c.args.entity.now c.most_names-most.result counted c.most_names-most.ensures.most c.most_names-most.ensures.small

pub invariant_of-self-in_err-was : goal.invariant_of-self-in_err-was
invariant_of-self-in_err-was c =
    let counted : IsCounted c.self.inside.slots c.make_for.new.self =
    subst (IsCounted c.self.inside.slots) (sym c.in_ok-make_for.ensures.ok) (counted_made c.self.inside.slots c.self.inside.names c.args.entity.now c.self.invariant) in
    subst (λ (m : SlotMap). IsCounted m c.make_for.new.self) (sym c.in_err-was.ensures.err) counted

pub invariant_of-self-2 : goal.invariant_of-self-2
invariant_of-self-2 c =
    wrote_counted c.self.inside.slots c.clear.new.self c.args.entity.now c.self.inside.names c.self.invariant c.self.inside.tags None c.make_for.new.self c.recount.new.self c.in_ok-was.was'
    c.in_ok-make_for.ensures.ok c.in_ok-was.ensures.was c.in_ok-was.ensures.ok c.recount.ensures
