-- Whether the step has room, from its plan.
use Rattle.sk_kernel.proofs.Names.{◌≡◌, Bool, true, false, cond, Some, None, refl, sym, subst, ap, ◌∙◌, is_some}
use Rattle.sk_kernel.proofs.Names.{EntryView, NoRoom, KernelView, state_at, effect_at, no_room, the_view}
use Rattle.sk_script.specs.declared.instruction.Input.TheVariants as inputs
use Rattle.sk_kernel.proofs.Refusals.{room_why}
use Rattle.sk_kernel.proofs.Rooms.{room_of}
use Rattle.sk_kernel.proofs.kernel.Kernel.lacks_room.Goals as goal

told : (b : Bool) → is_some (cond b (Some NoRoom) None) ≡ b
told true = refl
told false = refl

pub returns-in-Ok : goal.returns-in-Ok
returns-in-Ok c =
    let n : EntryView = record { pid = c.args.pid; input = inputs.None; guess = None } in
    subst (λ (k : KernelView). c.is_crowded.result ≡ is_some (no_room (state_at k) (effect_at k n))) c.self.view_is
    (sym (ap is_some (room_why (the_view c.self.inside) c.self.inside.machine c.self.inside.trace.room c.self.invariant.0 n _ c.in-Ok.ensures.plans
    ∙ room_of (the_view c.self.inside) c.self.inside.machine c.self.inside.trace.room c.self.invariant.0 n c.in-Ok.plan c.is_crowded.result c.is_crowded.ensures) ∙ told c.is_crowded.result))

pub returns-in-Err : goal.returns-in-Err
returns-in-Err c =
    let n : EntryView = record { pid = c.args.pid; input = inputs.None; guess = None } in
    subst (λ (k : KernelView). false ≡ is_some (no_room (state_at k) (effect_at k n))) c.self.view_is
    (sym (ap is_some (room_why (the_view c.self.inside) c.self.inside.machine c.self.inside.trace.room c.self.invariant.0 n _ c.in-Err.ensures.plans)))
