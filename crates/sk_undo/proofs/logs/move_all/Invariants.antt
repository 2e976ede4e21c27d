-- What is left stands in the store, and the rest in slots.
use Rattle.std.proofs.Common.{◌≡◌, [], drop}
use Rattle.sk_undo.proofs.Opening.{Opening}
use Rattle.sk_undo.proofs.logs.move_all.Given as goal

abbrev pub invariant-loop-entity : goal.invariant-loop-entity
invariant-loop-entity l = record {
  slots : Opening l.fn.store (drop l.entity-index l.fn.entities) l.store l.logs.slots;
  tags : l.logs.tags ≡ [];
}
