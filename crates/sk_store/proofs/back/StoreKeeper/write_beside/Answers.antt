-- The process is as it was after the write of the other entity.
use Rattle.sk_store.proofs.Names.{Some, sym, subst, ◌∙◌, ap, Proc, CanBecome, became, put_others}
use Rattle.std.specs.FinMap as map
use Rattle.sk_store.proofs.back.StoreKeeper.write_beside.Goals as goal

pub become_in-requires : goal.become_in-requires
become_in-requires g c =
    let s = c.args.self.now in
    let same = ap (λ x. map.get x (Proc c.args.pid)) c.in_ok-put.ensures.ok ∙ put_others s c.args.entity.now (Proc c.args.pid) (Some c.args.stored) c.requires.apart in
    subst (CanBecome (g.C.Becoming.can c.args.by.now)) (sym same) c.requires.can

pub returns-clause-ok : goal.returns-clause-ok
returns-clause-ok g c =
    let s = c.args.self.now in
    let after = g.C.Becoming.after c.args.by.now in
    let same = ap (λ x. map.get x (Proc c.args.pid)) c.in_ok-put.ensures.ok ∙ put_others s c.args.entity.now (Proc c.args.pid) (Some c.args.stored) c.requires.apart in
    c.become_in.ensures
    ∙ ap (λ o. map.insert c.put.new.self (Proc c.args.pid) (became after o)) same
    ∙ ap (λ x. map.insert x (Proc c.args.pid) (became after (map.get s (Proc c.args.pid)))) c.in_ok-put.ensures.ok
