-- One more change made and noted: going back from here ends where it did.
use Rattle.sk_changes.proofs.Names.{drop-cons, ◌+◌, drop, get_or, refl, sym, add-one, ◌≡◌, ap, ◌∙◌, Undo}
use Rattle.std.proofs.Common.{List, ◌∷◌, [], ◌++◌}
use Rattle.sk_changes.proofs.GoingBack.{back_push, CanGoBack-push}
use Rattle.sk_changes.proofs.run.apply_all.Goals as goal

pub loop-change-preserved : goal.loop-change-preserved
loop-change-preserved g c =
    let v = g.V.Invertible in
    let done = c.in_ok-undo.ensures in
    let undo = c.in_ok-undo.undo in
    let log = c.loop-change.undos.items in
    let pushed : c.push_reserved.new.self.items ≡ log ++ undo ∷ [] = c.push_reserved.ensures.items ∙ ap (λ (us : List Undo). us ++ undo ∷ []) c.reserve.ensures.items in
    let i = c.loop-change.change-index in
    let x = c.change-item.result in
    let now : drop i c.args.changes.now ≡ x ∷ drop (i + 1) c.args.changes.now = (let item : get_or c.args.changes.now i x ≡ x = sym c.change-item.is in drop-cons c.args.changes.now i x c.loop-change-test.true ∙ rw (item, add-one) refl) in
    record {
      fit = rw (← c.loop-change.invariant.fit, now, done.fit, done.ok.0) refl;
      leads = rw (← c.loop-change.invariant.leads, now, done.ok.0) refl;
      same = rw (pushed, back_push v.undone c.apply.new.self log undo, done.back.1) c.loop-change.invariant.same;
      can = λ h. rw pushed (CanGoBack-push v.undone v.can_undo c.apply.new.self log undo done.back.0 (rw done.back.1 (c.loop-change.invariant.can h)));
    }
