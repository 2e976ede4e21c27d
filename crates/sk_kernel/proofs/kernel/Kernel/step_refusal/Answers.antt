-- The plan tells why the plain kernel refuses the step, and whether a directory has room for its name.
use Rattle.sk_kernel.proofs.Names.{◌≡◌, Bool, true, false, cond, Option, Some, None, refl, sym, subst, ◌∙◌, IfSome}
use Rattle.sk_kernel.proofs.Names.{then_some, EntryView, input_in, cause, Refusal, NoRoom, KernelView, step_misfit}
use Rattle.sk_kernel.proofs.Names.{the_view}
use Rattle.sk_kernel.proofs.Refusals.{step_why}
use Rattle.sk_kernel.proofs.Rooms.{room_of}
use Rattle.sk_kernel.proofs.kernel.Kernel.step_refusal.Goals as goal

then_is : (b : Bool) → then_some b NoRoom ≡ cond b (Some NoRoom) None
then_is true = refl
then_is false = refl

named : (b : Bool) (o : Option Refusal) → o ≡ then_some b NoRoom → IfSome o (λ why. cause why ≡ Some why)
named true o is = subst (λ o. IfSome o (λ why. cause why ≡ Some why)) (sym is) refl
named false o is = subst (λ o. IfSome o (λ why. cause why ≡ Some why)) (sym is) tt

pub returns-in-Ok-clause-exact : goal.returns-in-Ok-clause-exact
returns-in-Ok-clause-exact c =
    let n : EntryView = record { pid = c.args.pid; input = input_in c.args.input; guess = None } in
    c.then_some.ensures ∙ then_is c.is_crowded.result
    ∙ subst (λ (k : KernelView). cond c.is_crowded.result (Some NoRoom) None ≡ step_misfit k n) c.self.view_is
    (sym (step_why (the_view c.self.inside) c.self.inside.machine c.self.inside.trace.room c.self.invariant.0 n _ c.in-Ok.ensures.plans
    ∙ room_of (the_view c.self.inside) c.self.inside.machine c.self.inside.trace.room c.self.invariant.0 n c.in-Ok.plan c.is_crowded.result c.is_crowded.ensures))

pub returns-in-Ok-clause-told : goal.returns-in-Ok-clause-told
returns-in-Ok-clause-told c = named c.is_crowded.result c.then_some.result c.then_some.ensures

pub returns-in-Err-clause-exact : goal.returns-in-Err-clause-exact
returns-in-Err-clause-exact c =
    let n : EntryView = record { pid = c.args.pid; input = input_in c.args.input; guess = None } in
    subst (λ (k : KernelView). Some c.in-Err.why ≡ step_misfit k n) c.self.view_is
    (sym (step_why (the_view c.self.inside) c.self.inside.machine c.self.inside.trace.room c.self.invariant.0 n _ c.in-Err.ensures.plans))
