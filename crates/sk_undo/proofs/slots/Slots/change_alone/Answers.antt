use Rattle.sk_undo.proofs.Cites.{ap, sym, ◌∙◌, Some, rules, changed, SlotView, slot_wrote}
use Rattle.sk_undo.proofs.Maps.{given, insert_same}
use Rattle.sk_undo.proofs.slots.Slots.change_alone.Goals as goal

pub returns-in_err-change_alone-in-Some-clause-err : goal.returns-in_err-change_alone-in-Some-clause-err
returns-in_err-change_alone-in-Some-clause-err c =
    let whole = rw c.in-Some.is at (c.slot_mut.follows.holds c.change_alone.new.self) in
    let same = insert_same c.args.self.now c.args.entity.now c.change_alone.new.self (sym c.in-Some.ensures.value ∙ ap Some (sym c.in_err-change_alone-in-Some.ensures.err)) in
    search (rules, whole ∙ same)

pub returns-clause-ok : goal.returns-clause-ok
returns-clause-ok c =
    (rw c.in-Some.is at (c.slot_mut.follows.holds c.change_alone.new.self))
    ∙ given c.args.self.now c.args.entity.now _ c.change_alone.new.self (λ (s : SlotView). slot_wrote c.args.tags.now s (Some (changed s.now c.args.change.now))) c.in-Some.ensures.value c.in_ok-change_alone-in-Some.ensures.ok
