use Rattle.sk_plain.proofs.Cites.{refl, Copy, ap, ◌∙◌, Some}
use Rattle.sk_plain.proofs.Others.{can_still, then_becomes, then_ok}
use Rattle.sk_plain.proofs.apply.write_copy.Goals as goal

pub write_last-requires-clause-can : goal.write_last-requires-clause-can
write_last-requires-clause-can g c =
    can_still g.K.Look.look g.K.Keeper.wrote g.met.K.Keeper.others (g.C.Becoming.can c.args.by.now) c.args.keeper.now c.write.new.self (Copy c.args.name.now) _ c.args.pid c.in_ok-back.ensures.ok refl c.requires

pub returns-clause-ok : goal.returns-clause-ok
returns-clause-ok g c =
    let k = c.args.keeper.now in
    let put = c.in_ok-back.ensures.ok ∙ ap (λ s. g.K.Keeper.wrote k (Copy c.args.name.now) (Some s)) c.in_ok-copy.ensures in
    then_ok c.write_last.result c.write_last.ensures.ok
    (then_becomes g.K.Look.look g.K.Keeper.wrote g.met.K.Keeper.others (g.C.Becoming.after c.args.by.now) k c.write.new.self c.write_last.new.keeper (Copy c.args.name.now) _ c.args.pid put refl)
