use Rattle.sk_undo.proofs.Cites.{◌∙◌, rules, slot_back}
use Rattle.sk_undo.proofs.Maps.{given}
use Rattle.sk_undo.proofs.slots.Slots.take_back.Goals as goal

pub returns-in-Some : goal.returns-in-Some
returns-in-Some c =
    let is = (rw c.in-Some.is at (c.slot_mut.follows.holds c.take_back.new.self))
    ∙ given c.args.self.now c.args.entity.now _ c.take_back.new.self (λ s. slot_back s c.in-UndoLast.back) c.in-Some.ensures.value c.take_back.ensures in
    search (rules, is)
