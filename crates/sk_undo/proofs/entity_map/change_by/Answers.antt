-- The slot of the process, changed through its loan, is put at its key.
use Rattle.sk_undo.proofs.Cites.{refl, ap, sym, subst, ◌∙◌, Option, Some, option_copied_mut, Proc}
use Rattle.sk_undo.proofs.Cites.{became, CanBecome, EntityState, SlotView, slot_in, slot_wrote, look_at}
use Rattle.sk_undo.proofs.Maps.{given, insert_same}
use Rattle.sk_undo.proofs.ByKind.{kinds_of, got, on_ok, set_process}
use Rattle.sk_undo.proofs.Both.{on_err, no_process}
use Rattle.sk_undo.proofs.entity_map.change_by.Goals as goal

pub change_process-requires : goal.change_process-requires
change_process-requires g c =
    let k = kinds_of c.slots.inside in
    let process = got c.slots.inside c.slots.view_is Proc c.process.ensures refl c.in-Some.ensures.value in
    let there = c.readable-there.ensures k.processes k.signals k.exits k.links ∙ ap (λ m. look_at m c.args.entity.now) c.slots.view_is in
    subst (λ (x : Option EntityState). CanBecome (g.C.BecomingBy.can c.args.by.now x) c.in-Some.slot.now.now) (sym there)
    (subst (λ (y : Option EntityState). CanBecome (g.C.BecomingBy.can c.args.by.now (look_at c.args.slots.now c.args.entity.now)) y) (sym (ap (λ (s : Option SlotView). (slot_in s).now) process)) c.requires.can)

pub unreachable-requires : goal.unreachable-requires
unreachable-requires g c =
    no_process c.args.slots.now (option_copied_mut c.get_mut.result) (ap option_copied_mut c.in-None.is) c.args.pid (g.C.BecomingBy.can c.args.by.now (look_at c.args.slots.now c.args.entity.now))
    (got c.slots.inside c.slots.view_is Proc c.process.ensures refl c.get_mut.ensures.value) c.requires.can

pub returns-clause-ok : goal.returns-clause-ok
returns-clause-ok g c =
    let k = kinds_of c.slots.inside in
    let w = c.change_process.new.self in
    let process = got c.slots.inside c.slots.view_is Proc c.process.ensures refl c.in-Some.ensures.value in
    let there = c.readable-there.ensures k.processes k.signals k.exits k.links ∙ ap (λ m. look_at m c.args.entity.now) c.slots.view_is in
    on_ok c.change_process.result (λ is.
    set_process c.slots.inside c.slots.view_is (Some w) c.process.ensures refl (rw c.in-Some.is at (c.get_mut.follows.holds w))
    ∙ given c.args.slots.now (Proc c.args.pid) c.in-Some.slot.now w
    (λ (s : SlotView). slot_wrote c.args.tags.now s (Some (became (g.C.BecomingBy.after c.args.by.now (look_at c.args.slots.now c.args.entity.now)) s.now))) process
    (is ∙ ap (λ (x : Option EntityState). slot_wrote c.args.tags.now c.in-Some.slot.now (Some (became (g.C.BecomingBy.after c.args.by.now x) c.in-Some.slot.now.now))) there))
    c.change_process.ensures.ok

pub returns-clause-err : goal.returns-clause-err
returns-clause-err g c =
    let w = c.change_process.new.self in
    let process = got c.slots.inside c.slots.view_is Proc c.process.ensures refl c.in-Some.ensures.value in
    on_err c.change_process.result (λ is.
    set_process c.slots.inside c.slots.view_is (Some w) c.process.ensures refl (rw c.in-Some.is at (c.get_mut.follows.holds w))
    ∙ insert_same c.args.slots.now (Proc c.args.pid) w (sym process ∙ ap Some (sym is)))
    c.change_process.ensures.err
