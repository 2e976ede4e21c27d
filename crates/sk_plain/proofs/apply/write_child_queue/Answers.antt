use Rattle.sk_plain.proofs.Cites.{Some, None, [], refl, rules, Sig, Exit, CanFork, forked}
use Rattle.sk_objects.specs.declared.value.Value.TheVariants as values
use Rattle.sk_store.specs.declared.entity_state.EntityState.TheVariants as stored
use Rattle.sk_plain.proofs.Others.{can_still, from_ok, then_more}
use Rattle.sk_plain.proofs.apply.write_child_queue.Goals as goal

pub write_child_slot-requires : goal.write_child_slot-requires
write_child_slot-requires g c =
    can_still g.K.Look.look g.K.Keeper.wrote g.met.K.Keeper.others (CanFork c.args.by.now) c.args.keeper.now c.write.new.self (Sig c.args.by.now.child) _ c.args.pid c.in_ok-back.ensures.ok refl c.requires

pub returns-clause-ok : goal.returns-clause-ok
returns-clause-ok g c =
    then_more g.K.Look.look g.K.Keeper.wrote g.met.K.Keeper.others (forked c.args.by.now) c.args.keeper.now c.write.new.self c.write_child_slot.new.keeper (Sig c.args.by.now.child) (Some (stored.Value (values.Signals []))) c.args.pid
    (λ k. g.K.Keeper.wrote k (Exit c.args.by.now.child) (Some (stored.Value (values.Exit None))))
    (search (rules, c.in_ok-back.ensures.ok, c.in_ok-queue.ensures)) refl
    (from_ok c.write_child_slot.result c.if-is_err.ensures.value c.write_child_slot.ensures.ok)
