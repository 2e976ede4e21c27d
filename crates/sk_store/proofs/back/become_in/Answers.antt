use Rattle.sk_store.proofs.Names.{◌∙◌, ap, Proc, became}
use Rattle.std.specs.FinMap as map
use Rattle.sk_store.proofs.back.become_in.Goals as goal

pub returns : goal.returns
returns g c =
    (rw c.in-Some.is at (c.get_mut.follows.holds c.become_by.new.self))
    ∙ ap (map.insert c.args.store.now (Proc c.args.pid)) (c.become_by.ensures ∙ ap (became (g.C.Becoming.after c.args.by.now)) c.in-Some.ensures.value)
