-- What an entity has, and all that entities have.
use Rattle.sk_store.specs.Base.{Coded, FinMap, code, entity_cmp, EntityState}
use Rattle.sk_ids.specs.contracts.entity.Entity as entity
use Rattle.sk_store.specs.contracts.entity_state.EntityState as stored

-- a finite map from entities to what they have
abbrev pub State : Type 0
State = FinMap entity_cmp EntityState

abbrev pub state_code : Coded State
state_code = code entity.the_row.coded stored.the_row.coded
