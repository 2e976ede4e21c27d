-- The entities that are left give the same from here.
use Rattle.std.proofs.Common.{drop}
use Rattle.sk_undo.proofs.Passes.{Committing}
use Rattle.sk_undo.proofs.slots.Slots.commit.Given as goal

abbrev pub invariant-loop-entity : goal.invariant-loop-entity
invariant-loop-entity l = Committing l.guess l.fn.self l.self (drop l.entity-index l.entities)
