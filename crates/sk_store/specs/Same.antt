-- When all entities have the same.
use Rattle.std.specs.Prelude.{Bool}
use Rattle.sk_ids.specs.Same.{same_map}
use Rattle.sk_ids.specs.contracts.entity.EntityPartialEq.TheImpl as entity
use Rattle.sk_store.specs.State.{State}
use Rattle.sk_store.specs.contracts.entity_state.EntityStatePartialEq.TheImpl as stored

-- whether in two states the same entities are present, and each has the same
abbrev pub same_state : State → State → Bool
same_state = same_map (entity.ghosts).eq (stored.ghosts).eq
