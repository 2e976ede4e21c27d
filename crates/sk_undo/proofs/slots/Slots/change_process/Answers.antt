use Rattle.sk_undo.proofs.Cites.{ap, sym, ◌∙◌, Some, rules, Proc, became, SlotView, slot_wrote}
use Rattle.sk_undo.proofs.Maps.{given, insert_same}
use Rattle.sk_undo.proofs.slots.Slots.change_process.Goals as goal

pub returns-in_err-change_process-in-Some-clause-err : goal.returns-in_err-change_process-in-Some-clause-err
returns-in_err-change_process-in-Some-clause-err g c =
    let whole = rw c.in-Some.is at (c.slot_mut.follows.holds c.change_process.new.self) in
    let same = insert_same c.args.self.now (Proc c.args.pid) c.change_process.new.self (sym c.in-Some.ensures.value ∙ ap Some (sym c.in_err-change_process-in-Some.ensures.err)) in
    search (rules, whole ∙ same)

pub returns-clause-ok : goal.returns-clause-ok
returns-clause-ok g c =
    (rw c.in-Some.is at (c.slot_mut.follows.holds c.change_process.new.self))
    ∙ given c.args.self.now (Proc c.args.pid) _ c.change_process.new.self (λ (s : SlotView). slot_wrote c.args.tags.now s (Some (became (g.C.Becoming.after c.args.by.now) s.now))) c.in-Some.ensures.value c.in_ok-change_process-in-Some.ensures.ok
