-- The newest note stands for the write, so that the log stays as it is.
use Rattle.sk_undo.proofs.Cites.{◌≡◌, Some, subst, sym, ◌∙◌, reverse, became, SlotView, own_tags, slot_wrote}
use Rattle.sk_undo.specs.contracts.slot.Slot.{the_view}
use Rattle.sk_undo.proofs.Stable.{on_wrote}
use Rattle.sk_undo.proofs.slot.Slot.go_on.Goals as goal

pub returns-clause-wrote : goal.returns-clause-wrote
returns-clause-wrote g c = λ _.
    let is = c.if-not-goes_on.false in
    let rs = reverse c.self.inside.log.notes.items in
    let log = on_wrote c.args.least c.self.inside.value c.become_in.new.value rs (c.goes_on.ensures.stable is) (sym c.goes_on.ensures.exact ∙ is) in
    subst (λ (s : SlotView). the_view record { value = c.become_in.new.value; log = c.self.inside.log } ≡ slot_wrote (own_tags s) s (Some (became (g.C.Becoming.after c.args.by.now) s.now))) c.self.view_is
    (λ i. record { now = c.become_in.ensures i; log = log i })
