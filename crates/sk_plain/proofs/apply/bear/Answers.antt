use Rattle.sk_plain.proofs.Cites.{Some, None, [], ap, ◌∙◌, Proc, Sig, Exit, Process, CanFork, forked, child_of}
use Rattle.sk_objects.specs.declared.value.Value.TheVariants as values
use Rattle.sk_store.specs.declared.entity_state.EntityState.TheVariants as stored
use Rattle.sk_plain.proofs.Others.{apart_from_child, can_still, from_ok, then_more}
use Rattle.sk_plain.proofs.apply.bear.Goals as goal

pub write_child_queue-requires : goal.write_child_queue-requires
write_child_queue-requires g c =
    can_still g.K.Look.look g.K.Keeper.wrote g.met.K.Keeper.others (CanFork c.args.by.now) c.args.keeper.now c.write.new.self (Proc c.args.by.now.child) _ c.args.pid c.in_ok-back.ensures.ok
    (apart_from_child c.args.pid c.args.by.now.child c.requires.apart) c.requires.can

pub returns-clause-ok : goal.returns-clause-ok
returns-clause-ok g c =
    let k = c.args.keeper.now in
    let child = c.args.by.now.child in
    let first = c.child_of-first.ensures ∙ ap (λ (q : Process). child_of q (record { pid = child; place = c.args.place; registers = q.registers })) c.process_at.ensures in
    let held = c.in_ok-child.ensures ∙ ap stored.Process first in
    let born = c.in_ok-back.ensures.ok ∙ ap (λ s. g.K.Keeper.wrote k (Proc child) (Some s)) held in
    then_more g.K.Look.look g.K.Keeper.wrote g.met.K.Keeper.others (forked c.args.by.now) k c.write.new.self c.write_child_queue.new.keeper (Proc child) _ c.args.pid
    (λ m. g.K.Keeper.wrote (g.K.Keeper.wrote m (Sig child) (Some (stored.Value (values.Signals [])))) (Exit child) (Some (stored.Value (values.Exit None))))
    born (apart_from_child c.args.pid child c.requires.apart)
    (from_ok c.write_child_queue.result c.if-is_err.ensures.value c.write_child_queue.ensures.ok)
