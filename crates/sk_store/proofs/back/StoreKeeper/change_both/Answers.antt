-- The process is as it was after the change of the other entity.
use Rattle.sk_store.proofs.Names.{Some, sym, subst, ◌∙◌, ap, Proc, changed, CanBecome, became, put_others}
use Rattle.std.specs.FinMap as map
use Rattle.sk_store.proofs.back.StoreKeeper.change_both.Goals as goal

pub become_in-requires : goal.become_in-requires
become_in-requires g c =
    let s = c.args.self.now in
    let v = changed (map.get s c.args.entity.now) c.args.change.now in
    let same = ap (λ x. map.get x (Proc c.args.pid)) c.in_ok-change_alone_in.ensures.ok ∙ put_others s c.args.entity.now (Proc c.args.pid) (Some v) c.requires.apart in
    subst (CanBecome (g.C.Becoming.can c.args.by.now)) (sym same) c.requires.can

pub returns-clause-ok : goal.returns-clause-ok
returns-clause-ok g c =
    let s = c.args.self.now in
    let v = changed (map.get s c.args.entity.now) c.args.change.now in
    let after = g.C.Becoming.after c.args.by.now in
    let same = ap (λ x. map.get x (Proc c.args.pid)) c.in_ok-change_alone_in.ensures.ok ∙ put_others s c.args.entity.now (Proc c.args.pid) (Some v) c.requires.apart in
    c.become_in.ensures
    ∙ ap (λ o. map.insert c.change_alone_in.new.store (Proc c.args.pid) (became after o)) same
    ∙ ap (λ x. map.insert x (Proc c.args.pid) (became after (map.get s (Proc c.args.pid)))) c.in_ok-change_alone_in.ensures.ok
