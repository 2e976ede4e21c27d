use Rattle.sk_undo.proofs.Cites.{◌≡◌, false, cond, Some, None, ap, ◌∙◌, eq_by_cmp, entity_cmp, Entity, entity_total}
use Rattle.sk_undo.proofs.Cites.{State, LogsView, moved, slots_wrote}
use Rattle.std.specs.FinMap as map
use Rattle.sk_undo.proofs.logs.move_over.Goals as goal

-- the store has elsewhere what it had
elsewhere : (old new : State) (at e : Entity) → new ≡ map.remove old at → eq_by_cmp entity_cmp e at ≡ false → map.get new e ≡ map.get old e
elsewhere old new at e is apart = ap (λ (m : State). map.get m e) is ∙ map.get-remove entity_total old at e ∙ ap (λ b. cond b None (map.get old e)) apart

pub returns-in_default-clause-others : goal.returns-in_default-clause-others
returns-in_default-clause-others c e apart = elsewhere c.args.store.now c.remove.new.self c.args.entity.now e c.remove.ensures.new apart

pub returns-in_err-set-clause-others : goal.returns-in_err-set-clause-others
returns-in_err-set-clause-others c e apart = elsewhere c.args.store.now c.remove.new.self c.args.entity.now e c.remove.ensures.new apart

pub returns-clause-others : goal.returns-clause-others
returns-clause-others c e apart = elsewhere c.args.store.now c.remove.new.self c.args.entity.now e c.remove.ensures.new apart

pub returns-clause-here : goal.returns-clause-here
returns-clause-here c =
    let m = c.args.logs.now.slots in
    let e = c.args.entity.now in
    ap (λ (l : LogsView). l.slots) c.in_ok-set.ensures.ok
    ∙ ap (λ tags. slots_wrote tags m e (Some c.in-Some.state)) c.requires
    ∙ ap (moved m e) c.in-Some.ensures.old
