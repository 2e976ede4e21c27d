use Rattle.sk_undo.proofs.Cites.{ap, sym, ◌∙◌, subst, Some, rules, changed, SlotView, slot_wrote, slot_back, slot_in}
use Rattle.sk_undo.proofs.Cites.{CanUndoLast}
use Rattle.std.specs.FinMap as map
use Rattle.sk_undo.proofs.Maps.{given, insert_same, can_again, back_again}
use Rattle.sk_undo.proofs.slots.Slots.change.Goals as goal

pub returns-in_err-back-in-Some-clause-err : goal.returns-in_err-back-in-Some-clause-err
returns-in_err-back-in-Some-clause-err c =
    let whole = rw c.in-Some.is at (c.slot_mut.follows.holds c.change.new.self) in
    let same = insert_same c.args.self.now c.args.entity.now c.change.new.self (sym c.in-Some.ensures.value ∙ ap Some (sym c.in_err-back-in-Some.ensures.err)) in
    search (rules, whole ∙ same)

pub returns-clause-ok : goal.returns-clause-ok
returns-clause-ok c =
    (rw c.in-Some.is at (c.slot_mut.follows.holds c.change.new.self))
    ∙ given c.args.self.now c.args.entity.now _ c.change.new.self (λ (s : SlotView). slot_wrote c.args.tags.now s (Some (changed s.now c.args.change.now))) c.in-Some.ensures.value c.in_ok-back-in-Some.ensures.ok

pub returns-clause-can : goal.returns-clause-can
returns-clause-can c =
    let whole = rw c.in-Some.is at (c.slot_mut.follows.holds c.change.new.self) in
    subst (λ m. CanUndoLast (map.get m c.args.entity.now) c.in_ok-back-in-Some.back) (sym whole)
    (can_again c.args.self.now c.args.entity.now c.change.new.self c.in_ok-back-in-Some.back c.in_ok-back-in-Some.ensures.can)

pub returns-clause-back : goal.returns-clause-back
returns-clause-back c =
    let whole = rw c.in-Some.is at (c.slot_mut.follows.holds c.change.new.self) in
    ap (λ m. map.insert m c.args.entity.now (slot_back (slot_in (map.get m c.args.entity.now)) c.in_ok-back-in-Some.back)) whole
    ∙ back_again c.args.self.now c.args.entity.now _ c.change.new.self c.in_ok-back-in-Some.back (sym c.in-Some.ensures.value) c.in_ok-back-in-Some.ensures.back
