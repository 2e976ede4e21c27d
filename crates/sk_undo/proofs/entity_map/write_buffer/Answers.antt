-- The slots of the object and of the process, changed through their loans, are put at their keys.
use Rattle.sk_undo.proofs.Cites.{refl, ap, ◌∙◌, Option, option_copied_mut, Proc, Obj}
use Rattle.sk_undo.proofs.Cites.{became, changed, CanBecome, FitsAt, EntityState}
use Rattle.sk_changes.specs.declared.change.Change.TheVariants as changes
use Rattle.sk_store.specs.Processes.{process_in}
use Rattle.sk_undo.proofs.ByKind.{got}
use Rattle.sk_undo.proofs.Both.{on_oks, on_errs, both_here, both_wrote, both_same, no_file, no_process, with_both}
use Rattle.sk_undo.proofs.entity_map.write_buffer.Goals as goal

pub write_buffer-requires-clause-fits : goal.write_buffer-requires-clause-fits
write_buffer-requires-clause-fits g c =
    let process = got c.slots.inside c.slots.view_is Proc c.process.ensures refl c.in-Some.ensures.value in
    let file = got c.slots.inside c.slots.view_is Obj c.object.ensures refl c.in-Some-get_mut.ensures.value in
    both_here c.args.slots.now c.args.id.now c.args.pid c.in-Some-get_mut.file.now c.in-Some.slot.now file process
    (λ (x : Option EntityState) (y : Option EntityState). FitsAt x (changes.WriteAt c.args.at (process_in y).buffer)) c.requires.fits

pub write_buffer-requires-clause-can : goal.write_buffer-requires-clause-can
write_buffer-requires-clause-can g c =
    let process = got c.slots.inside c.slots.view_is Proc c.process.ensures refl c.in-Some.ensures.value in
    let file = got c.slots.inside c.slots.view_is Obj c.object.ensures refl c.in-Some-get_mut.ensures.value in
    both_here c.args.slots.now c.args.id.now c.args.pid c.in-Some-get_mut.file.now c.in-Some.slot.now file process
    (λ (x : Option EntityState) (y : Option EntityState). CanBecome (g.C.Becoming.can c.args.by.now) y) c.requires.can

pub unreachable-requires : goal.unreachable-requires
unreachable-requires g c =
    no_file c.args.slots.now (option_copied_mut c.get_mut-in-Some.result) (ap option_copied_mut c.in-None-get_mut.is) c.args.id.now _
    (got c.slots.inside c.slots.view_is Obj c.object.ensures refl c.get_mut-in-Some.ensures.value) c.requires.fits

pub unreachable-requires-in-None : goal.unreachable-requires-in-None
unreachable-requires-in-None g c =
    no_process c.args.slots.now (option_copied_mut c.get_mut.result) (ap option_copied_mut c.in-None.is) c.args.pid (g.C.Becoming.can c.args.by.now)
    (got c.slots.inside c.slots.view_is Proc c.process.ensures refl c.get_mut.ensures.value) c.requires.can

pub returns-clause-ok : goal.returns-clause-ok
returns-clause-ok g c =
    let w = c.write_buffer.new.self in
    let f = c.write_buffer.new.file in
    let process = got c.slots.inside c.slots.view_is Proc c.process.ensures refl c.in-Some.ensures.value in
    let file = got c.slots.inside c.slots.view_is Obj c.object.ensures refl c.in-Some-get_mut.ensures.value in
    on_oks c.write_buffer.result (λ is_file is_process.
    with_both c.slots.inside c.slots.view_is w f c.process.ensures c.object.ensures
    (rw c.in-Some.is at (c.get_mut.follows.holds w)) (rw c.in-Some-get_mut.is at (c.get_mut-in-Some.follows.holds f))
    ∙ both_wrote c.args.slots.now c.args.id.now c.args.pid c.in-Some-get_mut.file.now c.in-Some.slot.now file process c.args.tags.now f w
    (λ (x : Option EntityState) (y : Option EntityState). changed x (changes.WriteAt c.args.at (process_in y).buffer)) (λ (y : Option EntityState). became (g.C.Becoming.after c.args.by.now) y) is_file is_process)
    c.write_buffer.ensures.file c.write_buffer.ensures.process

pub returns-clause-err : goal.returns-clause-err
returns-clause-err g c =
    let w = c.write_buffer.new.self in
    let f = c.write_buffer.new.file in
    let process = got c.slots.inside c.slots.view_is Proc c.process.ensures refl c.in-Some.ensures.value in
    let file = got c.slots.inside c.slots.view_is Obj c.object.ensures refl c.in-Some-get_mut.ensures.value in
    on_errs c.write_buffer.result (λ is_file is_process.
    with_both c.slots.inside c.slots.view_is w f c.process.ensures c.object.ensures
    (rw c.in-Some.is at (c.get_mut.follows.holds w)) (rw c.in-Some-get_mut.is at (c.get_mut-in-Some.follows.holds f))
    ∙ both_same c.args.slots.now c.args.id.now c.args.pid c.in-Some-get_mut.file.now c.in-Some.slot.now file process f w is_file is_process)
    c.write_buffer.ensures.same_file c.write_buffer.ensures.same_process
