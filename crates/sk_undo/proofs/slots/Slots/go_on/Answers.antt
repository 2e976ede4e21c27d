use Rattle.sk_undo.proofs.Cites.{ap, sym, ◌∙◌, Some, Proc, became, SlotView, own_tags, slot_wrote}
use Rattle.sk_undo.proofs.Maps.{given, insert_same}
use Rattle.sk_undo.proofs.slots.Slots.go_on.Goals as goal

pub returns-clause-wrote : goal.returns-clause-wrote
returns-clause-wrote g c = λ is.
    (rw c.in-Some.is at (c.slot_mut.follows.holds c.go_on.new.self))
    ∙ given c.args.self.now (Proc c.args.pid) _ c.go_on.new.self (λ (s : SlotView). slot_wrote (own_tags s) s (Some (became (g.C.Becoming.after c.args.by.now) s.now))) c.in-Some.ensures.value (c.go_on.ensures.wrote is)

pub returns-clause-same : goal.returns-clause-same
returns-clause-same g c = λ is.
    (rw c.in-Some.is at (c.slot_mut.follows.holds c.go_on.new.self))
    ∙ insert_same c.args.self.now (Proc c.args.pid) c.go_on.new.self (sym c.in-Some.ensures.value ∙ ap Some (sym (c.go_on.ensures.same is)))
