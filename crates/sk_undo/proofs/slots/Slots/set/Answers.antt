use Rattle.sk_undo.proofs.Cites.{◌≡◌, ap, sym, ◌∙◌, subst, Some, None, rules, slot_wrote, slot_back, slot_in}
use Rattle.sk_undo.proofs.Cites.{CanUndoLast}
use Rattle.std.specs.FinMap as map
use Rattle.sk_undo.proofs.Maps.{given, insert_same, can_again, back_again, remove_back}
use Rattle.sk_undo.proofs.slots.Slots.set.Goals as goal

pub returns-in_err-back-clause-err : goal.returns-in_err-back-clause-err
returns-in_err-back-clause-err c =
    let whole = rw c.in-Some.is at (c.late_slot_mut.follows.holds c.set.new.self) in
    let same = insert_same c.args.self.now c.args.entity.now c.set.new.self (sym c.in-Some.ensures.value ∙ ap Some (sym c.in_err-back.ensures.err)) in
    search (rules, whole ∙ same)

pub returns-in-Some-clause-ok : goal.returns-in-Some-clause-ok
returns-in-Some-clause-ok c =
    (rw c.in-Some.is at (c.late_slot_mut.follows.holds c.set.new.self))
    ∙ given c.args.self.now c.args.entity.now _ c.set.new.self (λ s. slot_wrote c.args.tags.now s (Some c.args.value)) c.in-Some.ensures.value
    c.in_ok-back.ensures.ok

pub returns-in-Some-clause-can : goal.returns-in-Some-clause-can
returns-in-Some-clause-can c =
    let whole = rw c.in-Some.is at (c.late_slot_mut.follows.holds c.set.new.self) in
    subst (λ m. CanUndoLast (map.get m c.args.entity.now) c.in_ok-back.back) (sym whole)
    (can_again c.args.self.now c.args.entity.now c.set.new.self c.in_ok-back.back c.in_ok-back.ensures.can)

pub returns-in-Some-clause-back : goal.returns-in-Some-clause-back
returns-in-Some-clause-back c =
    let whole = rw c.in-Some.is at (c.late_slot_mut.follows.holds c.set.new.self) in
    ap (λ m. map.insert m c.args.entity.now (slot_back (slot_in (map.get m c.args.entity.now)) c.in_ok-back.back)) whole
    ∙ back_again c.args.self.now c.args.entity.now _ c.set.new.self c.in_ok-back.back (sym c.in-Some.ensures.value) c.in_ok-back.ensures.back

pub returns-clause-back : goal.returns-clause-back
returns-clause-back c =
    let none : map.get c.args.self.now c.args.entity.now ≡ None = search rules in
    let whole : c.put.new.self ≡ map.insert c.args.self.now c.args.entity.now c.in_ok-slot.slot = search rules in
    ap (λ m. map.remove m c.args.entity.now) whole ∙ remove_back c.args.self.now c.args.entity.now c.in_ok-slot.slot none
