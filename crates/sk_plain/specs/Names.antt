-- The rows of the table on names of directories. Each name is an entity, which is looked at after its directory.
use Rattle.std.specs.Prelude.{ℕ, List, Option, Some, None}
use Rattle.sk_plain.specs.Base.{Ask, ObjId, Link, target_of, Process, given, EntityState, Errno, BadObject, NotLinked}
use Rattle.sk_plain.specs.Base.{Exists, NotDirectory, Val, Value}
use Rattle.sk_plain.specs.Rows.{StepTree, answered, failed, alone, with_write, with_removal, on_object}

-- why what is there is no directory: the error 9 where there is no object, 20 at another object
abbrev pub no_directory : Option EntityState → Option Errno
no_directory (Some (EntityState.Value Value.Dir)) = None
no_directory (Some (EntityState.Value (Value.File bytes))) = Some NotDirectory
no_directory (Some (EntityState.Value (Value.Pipe held))) = Some NotDirectory
no_directory _ = Some BadObject

-- a row where there is no error; else the process goes on with that error alone
abbrev pub unless_error : ℕ → Process → StepTree → Option Errno → StepTree
unless_error pid p row None = row
unless_error pid p row (Some error) = alone pid (failed p error)

-- a row about a name of a directory; where there is none the name is not looked at
abbrev pub on_directory : ℕ → Process → StepTree → Option EntityState → StepTree
on_directory pid p row there = unless_error pid p row (no_directory there)

-- the object that a name is linked to, where it is there
abbrev pub target_at : Option EntityState → Option ObjId
target_at (Some (EntityState.Value v)) = target_of v
target_at _ = None

-- the object of a name, in a register
abbrev pub named : ℕ → Process → ℕ → Option ObjId → StepTree
named pid p r (Some object) = alone pid (given p r (Val.Obj object))
named pid p r None = alone pid (failed p NotLinked)

-- `look rA rD NAME`
abbrev pub look : ℕ → Process → ℕ → Option ObjId → List ℕ → StepTree
look pid p r directory name =
    on_object pid p (λ d. on_directory pid p (Ask (Link d name) (λ there. named pid p r (target_at there)))) directory

-- a name linked to an object, where it is not there
abbrev pub link_to : ℕ → Process → ObjId → List ℕ → ObjId → Option EntityState → StepTree
link_to pid p d name object None = with_write pid (Link d name) (Value.Link object) (answered p 0)
link_to pid p d name object (Some there) = alone pid (failed p Exists)

-- an object that is to be linked, of which there has to be one in the register
abbrev pub linking : ℕ → Process → ObjId → List ℕ → Option ObjId → Option EntityState → StepTree
linking pid p d name (Some object) there = on_directory pid p (Ask (Link d name) (link_to pid p d name object)) there
linking pid p d name None there = alone pid (failed p BadObject)

-- `link rD NAME rA`; the directory is looked at before the object's register
abbrev pub link : ℕ → Process → Option ObjId → List ℕ → Option ObjId → StepTree
link pid p directory name object = on_object pid p (λ d. linking pid p d name object) directory

-- a name taken out, where it is there
abbrev pub unlink_from : ℕ → Process → ObjId → List ℕ → Option EntityState → StepTree
unlink_from pid p d name None = alone pid (failed p NotLinked)
unlink_from pid p d name (Some there) = with_removal pid (Link d name) (answered p 0)

-- `unlink rD NAME`
abbrev pub unlink : ℕ → Process → Option ObjId → List ℕ → StepTree
unlink pid p directory name = on_object pid p (λ d. on_directory pid p (Ask (Link d name) (unlink_from pid p d name))) directory
