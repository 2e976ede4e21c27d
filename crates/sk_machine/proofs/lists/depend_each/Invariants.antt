use Rattle.sk_machine.proofs.Names.{◌≡◌, take, opens_of, AllExact, tags_in, with_tags, entity_cmp}
use Rattle.sk_machine.proofs.lists.depend_each.Given as goal

abbrev pub invariant-loop-entity : goal.invariant-loop-entity
invariant-loop-entity l = record {
  view : l.guesses.view ≡ l.fn.guesses.view;
  opens : opens_of l.guesses.opens ≡ opens_of l.fn.guesses.opens;
  exact : AllExact (with_tags entity_cmp l.tags (take l.entity-index l.entities) (tags_in l.logs.slots)) l.guesses.opens;
}
