-- What the lines of entities say by what is listed of them.
use Rattle.std.specs.Prelude.{ℕ, List, [], ◌∷◌, ◌++◌, flat_map, codes, Some}
use Rattle.sk_report.specs.Base.{filter, Entity, Obj, EntityState, Present}
use Rattle.sk_report.specs.Printed.{joined, entity_text}
use Rattle.sk_report.specs.Directories.{is_name_of, name_text, target_text, held_with}
use Rattle.sk_report.specs.Report.{with_terminal}

-- a name and its object
abbrev pub link_said : Entity → EntityState → List ℕ
link_said e state = name_text e ++ 61 ∷ target_text (Some state)

abbrev pub directory_said : List Present → List ℕ
directory_said links = codes "dir " ++ joined 32 (λ p. link_said p.entity p.state.now) links

-- the names of the directory that an object is, among these entities
abbrev pub names_said : List Present → Entity → List ℕ
names_said all (Obj d) = directory_said (filter (λ p. is_name_of d p.entity) all)
names_said all _ = directory_said []

-- what an entity has, behind its name
abbrev pub held_said : List Present → Entity → EntityState → List ℕ
held_said all e s = held_with (names_said all e) s

-- the line of one among all, with what stands at its end
abbrev pub line_said : (List ℕ → List ℕ) → List Present → Present → List ℕ
line_said end all p = entity_text p.entity ++ 32 ∷ held_said all p.entity p.state.now ++ end p.tags.now ++ 10 ∷ []

abbrev pub lines_said : (List ℕ → List ℕ) → List Present → List ℕ
lines_said end all = flat_map (line_said end all) all

-- numbers, with the terminals of the processes among these
abbrev pub terminals_said : List ℕ → List Present → List ℕ
terminals_said numbers [] = numbers
terminals_said numbers (p ∷ ps) = terminals_said (with_terminal numbers (Some p.state.now)) ps
