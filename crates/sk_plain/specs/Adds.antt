-- The directory that a step adds a name to.
use Rattle.std.specs.Prelude.{List, [], ◌∷◌, Option, Some, None, option_and_then}
use Rattle.sk_plain.specs.Base.{option_or, ObjId, Entity, Link, EntityState, Plan, Beside}

-- the directory of a name
abbrev pub directory_of : Entity → Option ObjId
directory_of (Link d name) = Some d
directory_of _ = None

-- the directory of the first name that these writes have be there, which is written so only where it is absent
abbrev pub adds_in : List (Entity × Option EntityState) → Option ObjId
adds_in [] = None
adds_in (w ∷ ws) = option_or (option_and_then (λ _. directory_of w.0) w.1) (adds_in ws)

-- the directory of the name that a plan has be there beside the process, if it does
abbrev pub adds_beside : Beside → Option ObjId
adds_beside Beside.Nothing = None
adds_beside (Beside.One e w) = directory_of e
adds_beside (Beside.Gone e) = None

-- the directory of the name that a plan writes, if it writes one
abbrev pub adds_of : Plan → Option ObjId
adds_of (Plan.Acts r) = adds_beside r.beside
adds_of _ = None
