-- The tests of what entities have are exact.
use Rattle.std.specs.Prelude.{◌≡◌, true}
use Rattle.sk_store.specs.Base.{ap, IsExact, exact_map, exact_from, exact_entity, exact_value, exact_process}
use Rattle.sk_store.specs.Base.{EntityState, Value}
use Rattle.sk_store.specs.Same.{same_state}
use Rattle.sk_store.specs.declared.entity_state.EntityState.TheVariants.{Process}
use Rattle.sk_store.specs.contracts.entity_state.EntityStatePartialEq.TheImpl as stored
use Rattle.sk_store.specs.contracts.entity_state.EntityStateEq.TheImpl.Laws.{laws-law}

stored_from : (a b : EntityState) → (stored.ghosts).eq a b ≡ true → a ≡ b
stored_from (Process p) (Process q) h = ap Process ((exact_process p q).0 h)
stored_from (Value v) (Value w) h = ap Value ((exact_value v w).0 h)
stored_from _ _ h = cc

exact_stored : IsExact (stored.ghosts).eq
exact_stored = exact_from (stored.ghosts).eq laws-law.refl stored_from

pub exact_state : IsExact same_state
exact_state = exact_map exact_entity exact_stored
