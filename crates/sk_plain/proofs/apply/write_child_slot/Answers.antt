use Rattle.sk_plain.proofs.Cites.{refl, Exit, CanFork, forked}
use Rattle.sk_plain.proofs.Others.{can_still, then_becomes, then_ok}
use Rattle.sk_plain.proofs.apply.write_child_slot.Goals as goal

pub write_last-requires-clause-can : goal.write_last-requires-clause-can
write_last-requires-clause-can g c =
    can_still g.K.Look.look g.K.Keeper.wrote g.met.K.Keeper.others (CanFork c.args.by.now) c.args.keeper.now c.write.new.self (Exit c.args.by.now.child) _ c.args.pid c.in_ok-back.ensures.ok refl c.requires

pub returns-clause-ok : goal.returns-clause-ok
returns-clause-ok g c =
    then_ok c.write_last.result c.write_last.ensures.ok (then_becomes g.K.Look.look g.K.Keeper.wrote g.met.K.Keeper.others (forked c.args.by.now) c.args.keeper.now c.write.new.self c.write_last.new.keeper (Exit c.args.by.now.child) _ c.args.pid c.in_ok-back.ensures.ok refl)
