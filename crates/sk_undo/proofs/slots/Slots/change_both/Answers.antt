-- The process is as it was after the change of the other entity.
use Rattle.sk_undo.proofs.Cites.{ap, sym, subst, ◌∙◌, Some, Proc, changed, CanBecome, became, goes_unnoted, slot_in}
use Rattle.sk_undo.proofs.Cites.{look_at, slots_wrote}
use Rattle.sk_undo.proofs.Passes.{wrote_get}
use Rattle.sk_undo.proofs.slots.Slots.change_both.Goals as goal

pub become_unnoted-requires-clause-unnoted : goal.become_unnoted-requires-clause-unnoted
become_unnoted-requires-clause-unnoted g c =
    let m = c.args.self.now in
    let e = c.args.entity.now in
    let tags = c.args.tags.now in
    let same = wrote_get tags m c.change_alone.new.self e (Proc c.args.pid) (Some (changed (look_at m e) c.args.change.now)) c.in_ok-change_alone.ensures.ok c.requires.apart in
    ap (λ o. goes_unnoted tags (slot_in o).log) same ∙ c.requires.unnoted

pub become_unnoted-requires-clause-can : goal.become_unnoted-requires-clause-can
become_unnoted-requires-clause-can g c =
    let m = c.args.self.now in
    let e = c.args.entity.now in
    let same = wrote_get c.args.tags.now m c.change_alone.new.self e (Proc c.args.pid) (Some (changed (look_at m e) c.args.change.now)) c.in_ok-change_alone.ensures.ok c.requires.apart in
    subst (λ o. CanBecome (g.C.Becoming.can c.args.by.now) (slot_in o).now) (sym same) c.requires.can

pub returns-clause-ok : goal.returns-clause-ok
returns-clause-ok g c =
    let m = c.args.self.now in
    let e = c.args.entity.now in
    let tags = c.args.tags.now in
    let after = g.C.Becoming.after c.args.by.now in
    let same = wrote_get tags m c.change_alone.new.self e (Proc c.args.pid) (Some (changed (look_at m e) c.args.change.now)) c.in_ok-change_alone.ensures.ok c.requires.apart in
    c.become_unnoted.ensures
    ∙ ap (λ o. slots_wrote tags c.change_alone.new.self (Proc c.args.pid) (Some (became after (slot_in o).now))) same
    ∙ ap (λ x. slots_wrote tags x (Proc c.args.pid) (Some (became after (look_at m (Proc c.args.pid))))) c.in_ok-change_alone.ensures.ok
