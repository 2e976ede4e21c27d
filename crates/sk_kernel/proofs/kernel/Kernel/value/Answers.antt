-- What is looked up is the run of the trace's record.
use Rattle.sk_kernel.proofs.Names.{◌≡◌, Option, Some, None, ap, sym, ◌∙◌, subst, option_copied, EntityState, Shows}
use Rattle.sk_kernel.proofs.Names.{KernelView, state_at, the_view}
use Rattle.std.specs.FinMap as map
use Rattle.sk_kernel.proofs.Whole.{look_is}
use Rattle.sk_kernel.proofs.kernel.Kernel.value.Goals as goal

pub returns-in-Some : goal.returns-in-Some
returns-in-Some c =
    let e = c.args.entity.now in
    let is : map.get (state_at (the_view c.self.inside)) e ≡ Some c.in-Some.stored.now =
    sym (look_is (the_view c.self.inside) c.self.inside.machine c.self.invariant.0.stands e) ∙ sym c.value.ensures ∙ ap option_copied c.in-Some.is in
    subst (λ (k : KernelView). Shows (map.get (state_at k) e) (Some c.of.result)) c.self.view_is
    (subst (λ (o : Option EntityState). Shows o (Some c.of.result)) (sym is) c.of.ensures)

pub returns-in-None : goal.returns-in-None
returns-in-None c =
    let e = c.args.entity.now in
    let is : map.get (state_at (the_view c.self.inside)) e ≡ None =
    sym (look_is (the_view c.self.inside) c.self.inside.machine c.self.invariant.0.stands e) ∙ sym c.value.ensures ∙ ap option_copied c.in-None.is in
    subst (λ (k : KernelView). Shows (map.get (state_at k) e) None) c.self.view_is
    (subst (λ (o : Option EntityState). Shows o None) (sym is) tt)
