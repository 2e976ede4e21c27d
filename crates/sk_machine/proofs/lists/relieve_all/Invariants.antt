use Rattle.sk_machine.proofs.Names.{◌≡◌, drop, opens_of, AllAlmostExact, tags_in}
use Rattle.sk_machine.proofs.lists.relieve_all.Given as goal

abbrev pub invariant-loop-entity : goal.invariant-loop-entity
invariant-loop-entity l = record {
  view : l.guesses.view ≡ l.fn.guesses.view;
  opens : opens_of l.guesses.opens ≡ opens_of l.fn.guesses.opens;
  almost : AllAlmostExact (tags_in l.logs.slots) (drop l.entity-index l.entities) l.guesses.opens;
}
