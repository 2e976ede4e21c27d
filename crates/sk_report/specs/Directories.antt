-- What the line of an entity says: of a directory its names, gathered from the entities that they are.
use Rattle.std.specs.Prelude.{ℕ, Bool, true, false, List, [], ◌∷◌, ◌++◌, codes, Option, Some, None}
use Rattle.sk_report.specs.Base.{filter, eq_by_cmp, is_lt, object_cmp, ObjId, Entity, Obj, Link, Copy, EntityState}
use Rattle.sk_report.specs.Base.{Value}
use Rattle.sk_report.specs.Printed.{joined, process_text, value_text}

-- a name of this directory
abbrev pub is_name_of : ObjId → Entity → Bool
is_name_of d (Link u name) = eq_by_cmp object_cmp u d
is_name_of d _ = false

-- before each name of this directory
abbrev pub is_before : ObjId → Entity → Bool
is_before d (Link u name) = is_lt (object_cmp u d)
is_before d (Copy n) = false
is_before d _ = true

-- the names of a directory among entities, which are by their order
abbrev pub names_under : ObjId → List Entity → List Entity
names_under d es = filter (is_name_of d) es

abbrev pub name_text : Entity → List ℕ
name_text (Link u name) = name
name_text _ = []

-- what stands at a name
abbrev pub target_text : Option EntityState → List ℕ
target_text (Some (EntityState.Value v)) = value_text v
target_text _ = []

-- a name and its object
abbrev pub link_text : (Entity → Option EntityState) → Entity → List ℕ
link_text look e = name_text e ++ 61 ∷ target_text (look e)

-- the names of a directory with their objects; a dash where there is none
abbrev pub directory_text : (Entity → Option EntityState) → List Entity → List ℕ
directory_text look links = codes "dir " ++ joined 32 (link_text look) links

-- the directory that an object is
abbrev pub gathered_at : (Entity → Option EntityState) → List Entity → Entity → List ℕ
gathered_at look es (Obj d) = directory_text look (names_under d es)
gathered_at look es _ = directory_text look []

-- what an entity has, behind its name, where this is the text of a directory
abbrev pub held_with : List ℕ → EntityState → List ℕ
held_with directory (EntityState.Process p) = process_text p
held_with directory (EntityState.Value Value.Dir) = directory
held_with directory (EntityState.Value v) = value_text v

-- what an entity has, behind its name; a directory has the names that are among these entities
abbrev pub gathered : (Entity → Option EntityState) → List Entity → Entity → EntityState → List ℕ
gathered look es e s = held_with (gathered_at look es e) s

-- the text of what an entity holds; none where it is absent
abbrev pub held_text : (Entity → Option EntityState) → List Entity → Entity → Option EntityState → List ℕ
held_text look es e None = []
held_text look es e (Some s) = gathered look es e s

-- what a look-up tells of it
abbrev pub held_there : (Entity → Option EntityState) → List Entity → Entity → List ℕ
held_there look es e = held_text look es e (look e)
