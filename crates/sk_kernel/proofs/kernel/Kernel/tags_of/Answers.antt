-- The tags of the machine are those of the trace.
use Rattle.sk_kernel.proofs.Names.{◌≡◌, true, ap, sym, ◌∙◌, subst, ◌↔◌, has, KernelView, tags_at, RestsOn, the_view}
use Rattle.sk_kernel.proofs.Whole.{tags_computed, tags_exact}
use Rattle.sk_kernel.proofs.kernel.Kernel.tags_of.Goals as goal

pub returns-clause-computed : goal.returns-clause-computed
returns-clause-computed c =
    let e = c.args.entity.now in
    c.tags_of.ensures ∙ tags_computed (the_view c.self.inside) c.self.inside.machine c.self.invariant.0.stands e ∙ ap (λ (k : KernelView). tags_at k e) c.self.view_is

pub returns-clause-exact : goal.returns-clause-exact
returns-clause-exact c = λ g.
    let e = c.args.entity.now in
    let exact = tags_exact (the_view c.self.inside) c.self.inside.machine c.self.invariant.0.stands e g in
    subst (λ (k : KernelView). (has g c.tags_of.result.now ≡ true) ↔ RestsOn k e g) c.self.view_is
    ((λ here. exact.0 (sym (ap (has g) c.tags_of.ensures) ∙ here)), λ rests. ap (has g) c.tags_of.ensures ∙ exact.1 rests)
