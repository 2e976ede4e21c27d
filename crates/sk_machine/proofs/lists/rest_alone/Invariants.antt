-- Each before the loop's place depends on the guess alone.
use Rattle.sk_machine.proofs.Names.{◌∷◌, [], take, Covers, tags_in}
use Rattle.sk_machine.proofs.lists.rest_alone.Given as goal

abbrev pub invariant-loop-entity : goal.invariant-loop-entity
invariant-loop-entity l = Covers (l.id ∷ []) (take l.entity-index l.entities) (tags_in l.logs.slots)
