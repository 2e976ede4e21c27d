-- The last undo may be given back, and going back goes on from what it leaves.
use Rattle.sk_changes.proofs.Names.{ap, sym, subst, ◌∙◌, back, CanGoBack}
use Rattle.sk_changes.proofs.GoingBack.{back_push, CanGoBack-last}
use Rattle.sk_changes.proofs.run.undo_all.Goals as goal

pub undo-requires : goal.undo-requires
undo-requires g c =
    let v = g.V.Invertible in
    (CanGoBack-last v.undone v.can_undo c.loop-undo.value c.pop.new.self.items c.in-Some.undo
    (subst (CanGoBack v.undone v.can_undo c.loop-undo.value) c.in-Some.ensures.items c.loop-undo.invariant.can)).0

pub loop-undo-preserved : goal.loop-undo-preserved
loop-undo-preserved g c =
    let v = g.V.Invertible in
    let last = CanGoBack-last v.undone v.can_undo c.loop-undo.value c.pop.new.self.items c.in-Some.undo
    (subst (CanGoBack v.undone v.can_undo c.loop-undo.value) c.in-Some.ensures.items c.loop-undo.invariant.can) in
    record {
      same = rw c.undo.ensures (sym (back_push v.undone c.loop-undo.value c.pop.new.self.items c.in-Some.undo) ∙ ap (back v.undone c.loop-undo.value) (sym c.in-Some.ensures.items) ∙ c.loop-undo.invariant.same);
      can = rw c.undo.ensures last.1;
    }
