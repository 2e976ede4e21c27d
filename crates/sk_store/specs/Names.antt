-- How many names of a directory are there: told by look-ups alone, so that it is one definition for a state and for slots with logs, and
-- counted in a state.
use Rattle.std.specs.Prelude.{◌≡◌, ℕ, Bool, List, filter_map, Option, Some, None, is_some, if◌then◌else◌}
use Rattle.sk_store.specs.Base.{eq_by_cmp, FinSet, contains, from_list, len, name_order, object_cmp, ObjId, Entity}
use Rattle.sk_store.specs.Base.{Link, EntityState}
use Rattle.std.specs.FinMap as map
use Rattle.sk_store.specs.State.{State}

-- whether a name of a directory is there
abbrev pub name_there : (Entity → Option EntityState) → ObjId → List ℕ → Bool
name_there look d name = is_some (look (Link d name))

-- these names of a directory are there, and no others, and they are so many
pub record IsCount (there : ObjId → List ℕ → Bool) (d : ObjId) (n : ℕ) : Type 0 where
  pub names : FinSet name_order
  pub all : (name : List ℕ) → contains names name ≡ there d name
  pub count : len names ≡ n

-- a name of this directory
abbrev pub name_of : ObjId → Entity → Option (List ℕ)
name_of d (Link o name) = if eq_by_cmp object_cmp d o then Some name else None
name_of d _ = None

-- how many names of a directory a state has
abbrev pub names_in : State → ObjId → ℕ
names_in s d = len (from_list {R = name_order} (filter_map (name_of d) (map.keys s)))
