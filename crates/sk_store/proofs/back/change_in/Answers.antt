-- The value stands where it was: changed, so that it can be changed back, or as it was.
use Rattle.sk_store.proofs.Names.{Some, sym, ◌∙◌, ap, subst, rules, get, CanChangeBack, changed_back}
use Rattle.sk_store.proofs.InPlace.{put_changed, insert_same, can_change_back, changed_and_back}
use Rattle.sk_store.proofs.back.change_in.Goals as goal

pub returns-in_err-undo-in-Some-clause-err : goal.returns-in_err-undo-in-Some-clause-err
returns-in_err-undo-in-Some-clause-err c =
    let whole = rw c.in-Some.is at (c.get_mut.follows.holds c.change.new.self) in
    let same = insert_same c.args.store.now c.args.entity.now c.change.new.self (sym c.in-Some.ensures.value ∙ ap Some (sym c.in_err-undo-in-Some.ensures.err)) in
    search (rules, whole ∙ same)

pub returns-clause-ok : goal.returns-clause-ok
returns-clause-ok c =
    (rw c.in-Some.is at (c.get_mut.follows.holds c.change.new.self))
    ∙ put_changed c.args.store.now c.args.entity.now _ c.change.new.self c.args.change.now c.in-Some.ensures.value c.in_ok-undo-in-Some.ensures.ok

pub returns-clause-can : goal.returns-clause-can
returns-clause-can c =
    let whole = rw c.in-Some.is at (c.get_mut.follows.holds c.change.new.self) in
    subst (λ t. CanChangeBack (get t c.args.entity.now) c.in_ok-undo-in-Some.undo) (sym whole)
    (can_change_back c.args.store.now c.args.entity.now c.change.new.self c.in_ok-undo-in-Some.undo c.in_ok-undo-in-Some.ensures.can)

pub returns-clause-back : goal.returns-clause-back
returns-clause-back c =
    let whole = rw c.in-Some.is at (c.get_mut.follows.holds c.change.new.self) in
    ap (λ t. changed_back (get t c.args.entity.now) t c.args.entity.now c.in_ok-undo-in-Some.undo) whole
    ∙ changed_and_back c.args.store.now c.args.entity.now _ c.change.new.self c.in_ok-undo-in-Some.undo (sym c.in-Some.ensures.value) c.in_ok-undo-in-Some.ensures.back
