-- The statuses that are kept are those of the trace.
use Rattle.sk_kernel.proofs.Names.{◌≡◌, Some, sym, ◌∙◌, subst, ◌↔◌, KernelView, HasStatus, the_view}
use Rattle.sk_kernel.proofs.Whole.{status_is}
use Rattle.sk_kernel.proofs.kernel.Kernel.status.Goals as goal

pub returns : goal.returns
returns c = λ s.
    let is = status_is (the_view c.self.inside) c.self.inside.machine c.self.invariant.0.stands c.args.id s in
    subst (λ (k : KernelView). (c.status.result ≡ Some s) ↔ HasStatus k c.args.id s) c.self.view_is
    ((λ here. is.0 (sym c.status.ensures ∙ here)), λ has. c.status.ensures ∙ is.1 has)
