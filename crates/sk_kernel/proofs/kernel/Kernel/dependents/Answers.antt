-- The list of the machine is that of the trace.
use Rattle.sk_kernel.proofs.Names.{◌≡◌, subst, is_in, has, entity_cmp, KernelView, tags_at, the_view}
use Rattle.sk_kernel.proofs.Whole.{dependents_are}
use Rattle.sk_kernel.proofs.kernel.Kernel.dependents.Goals as goal

pub returns-clause-exact : goal.returns-clause-exact
returns-clause-exact c = λ e.
    subst (λ (k : KernelView). is_in entity_cmp c.dependents.result.now e ≡ has c.args.id (tags_at k e)) c.self.view_is
    (dependents_are (the_view c.self.inside) c.self.inside.machine c.self.invariant.0.stands c.args.id c.dependents.result.now c.dependents.ensures.exact c.dependents.ensures.none e)
