use Rattle.std.proofs.Common.{Some, sym, ◌∙◌, ap, rules}
use Rattle.sk_store.proofs.InPlace.{put_changed, insert_same}
use Rattle.sk_store.proofs.back.change_alone_in.Goals as goal

pub returns-in_err-change_alone-in-Some-clause-err : goal.returns-in_err-change_alone-in-Some-clause-err
returns-in_err-change_alone-in-Some-clause-err c =
    let whole = rw c.in-Some.is at (c.get_mut.follows.holds c.change_alone.new.self) in
    let same = insert_same c.args.store.now c.args.entity.now c.change_alone.new.self (sym c.in-Some.ensures.value ∙ ap Some (sym c.in_err-change_alone-in-Some.ensures.err)) in
    search (rules, whole ∙ same)

pub returns-clause-ok : goal.returns-clause-ok
returns-clause-ok c =
    (rw c.in-Some.is at (c.get_mut.follows.holds c.change_alone.new.self))
    ∙ put_changed c.args.store.now c.args.entity.now _ c.change_alone.new.self c.args.change.now c.in-Some.ensures.value c.in_ok-change_alone-in-Some.ensures.ok
