-- The entities that are left give the same from here.
use Rattle.std.proofs.Common.{◌≡◌, drop}
use Rattle.sk_undo.proofs.Passes.{Unwinding}
use Rattle.sk_undo.proofs.logs.Logs.unwind.Given as goal

abbrev pub invariant-loop-entity : goal.invariant-loop-entity
invariant-loop-entity l = record {
  slots : Unwinding l.guess l.fn.self.slots l.self.slots (drop l.entity-index l.entities);
  tags : l.self.tags ≡ l.fn.self.tags;
}
