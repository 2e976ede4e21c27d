-- What is left to do fits, and leads on, as the whole list did; going back leads where it did.
use Rattle.sk_changes.proofs.Names.{◌≡◌, drop, back, CanGoBack, all_fit, fold}
use Rattle.sk_changes.proofs.run.apply_all.Given as goal

abbrev pub invariant-loop-change : goal.invariant-loop-change
invariant-loop-change g l =
    let v = g.V.Invertible in
    record {
      fit : all_fit v.fits v.applied l.value (drop l.change-index l.changes) ≡ all_fit v.fits v.applied l.fn.value l.changes;
      leads : fold v.applied l.value (drop l.change-index l.changes) ≡ fold v.applied l.fn.value l.changes;
      same : back v.undone l.value l.undos.items ≡ back v.undone l.fn.value l.fn.undos.items;
      can : CanGoBack v.undone v.can_undo l.fn.value l.fn.undos.items → CanGoBack v.undone v.can_undo l.value l.undos.items;
    }
