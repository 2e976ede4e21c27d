-- How many names of each directory are there, kept beside the slots.
use Rattle.std.specs.Prelude.{◌≡◌, ℕ, ◌+◌, ◌-◌, Bool, true, false, List, is_some, if◌then◌else◌}
use Rattle.sk_undo.specs.Base.{unwrap_or, object_cmp, ObjId, Entity, Link, name_there, IsCount}
use Rattle.std.specs.FinMap as map
use Rattle.sk_undo.specs.Logs.{SlotMap, look_at}

abbrev pub NameMap : Type 0
NameMap = map.FinMap object_cmp ℕ

-- the number of a directory, 0 where it has none
abbrev pub count_in : NameMap → ObjId → ℕ
count_in names d = unwrap_or (map.get names d) 0

-- the numbers, with this one for a directory that has one
abbrev pub with_count : NameMap → ObjId → ℕ → NameMap
with_count names d n = if is_some (map.get names d) then map.insert names d n else names

-- the numbers, with 0 for this directory where it had none
abbrev pub with_place : NameMap → ObjId → NameMap
with_place names d = if is_some (map.get names d) then names else map.insert names d 0

-- the numbers, with one for the directory of a name
abbrev pub made_for : NameMap → Entity → NameMap
made_for names (Link d name) = with_place names d
made_for names _ = names

-- the numbers, once a name of a directory that was there or not is there or not
abbrev pub recounted_at : NameMap → ObjId → Bool → Bool → NameMap
recounted_at names d true false = with_count names d (count_in names d - 1)
recounted_at names d false true = with_count names d (count_in names d + 1)
recounted_at names d _ _ = names

abbrev pub recounted : NameMap → Entity → Bool → Bool → NameMap
recounted names (Link d name) was is = recounted_at names d was is
recounted names _ was is = names

-- the number of the directory of a name
abbrev pub count_for : NameMap → Entity → ℕ
count_for names (Link d name) = count_in names d
count_for names _ = 0

-- whether an entity is a name that is there
abbrev pub link_there : SlotMap → Entity → Bool
link_there m (Link d name) = is_some (look_at m (Link d name))
link_there m _ = false

-- each directory's number is how many names it has, and where a name has a slot its directory has a number
pub record IsCounted (m : SlotMap) (names : NameMap) : Type 0 where
  pub count : (d : ObjId) → IsCount (name_there (look_at m)) d (count_in names d)
  pub places : (d : ObjId) (name : List ℕ) → map.contains_key m (Link d name) ≡ true → is_some (map.get names d) ≡ true
