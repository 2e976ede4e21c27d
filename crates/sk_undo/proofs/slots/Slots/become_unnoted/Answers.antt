use Rattle.sk_undo.proofs.Cites.{◌∙◌, Some, Proc, became, SlotView, slot_wrote}
use Rattle.sk_undo.proofs.Maps.{given}
use Rattle.sk_undo.proofs.slots.Slots.become_unnoted.Goals as goal

pub returns : goal.returns
returns g c =
    (rw c.in-Some.is at (c.slot_mut.follows.holds c.become_unnoted.new.self))
    ∙ given c.args.self.now (Proc c.args.pid) _ c.become_unnoted.new.self (λ (s : SlotView). slot_wrote c.args.tags.now s (Some (became (g.C.Becoming.after c.args.by.now) s.now))) c.in-Some.ensures.value c.become_unnoted.ensures
