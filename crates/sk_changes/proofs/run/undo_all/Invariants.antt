-- Going back from here ends where going back from the start does.
use Rattle.sk_changes.proofs.Names.{◌≡◌, vec_len, back, CanGoBack}
use Rattle.sk_changes.proofs.run.undo_all.Given as goal

abbrev pub invariant-loop-undo : goal.invariant-loop-undo
invariant-loop-undo g l =
    let v = g.V.Invertible in
    record {
      same : back v.undone l.value l.undos.items ≡ back v.undone l.fn.value l.fn.undos.items;
      can : CanGoBack v.undone v.can_undo l.value l.undos.items;
    }

abbrev pub decreases-loop-undo : goal.decreases-loop-undo
decreases-loop-undo g l = vec_len l.undos
