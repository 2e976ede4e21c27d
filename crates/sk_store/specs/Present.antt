-- Entities that are present, each with what it has and the guesses that it depends on.
use Rattle.std.specs.Prelude.{◌≡◌, ℕ, List, [], map, Option, Some}
use Rattle.sk_store.specs.Base.{Entity, EntityState, Present}

-- what is listed of an entity is what that has and depends on
abbrev pub IsPresent : (Entity → Option EntityState) → (Entity → List ℕ) → Present → Type 0
IsPresent look tags p = (look p.entity ≡ Some p.state.now) × (tags p.entity ≡ p.tags.now)

-- the entities that are listed
abbrev pub entities_of : List Present → List Entity
entities_of all = map (λ p. p.entity) all

-- what is listed of one entity, as plain values
abbrev pub Shown : Type 0
Shown = Entity × (EntityState × List ℕ)

abbrev pub shown : Present → Shown
shown p = (p.entity, (p.state.now, p.tags.now))

-- what an entity has that depends on no guess
abbrev pub shown_alone : Entity × EntityState → Shown
shown_alone e = (e.0, (e.1, []))
