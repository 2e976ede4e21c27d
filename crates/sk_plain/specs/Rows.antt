-- What the rows of the table of instructions are made of: what becomes of a process, what a register's value stands for, and what is written.
use Rattle.std.specs.Prelude.{ℕ, ◌+◌, ◌&&◌, pos, neg_ℤ, nat_le, List, [], ◌∷◌, Option, Some, None, Result, Ok, Err, slice_set, if◌then◌else◌}
use Rattle.sk_plain.specs.Base.{Step, Ask, Done, ObjId, Entity, Proc, Obj, Val, Process, given, EntityState, Refusal}
use Rattle.sk_plain.specs.Base.{Errno, BadObject, Invalid, Value}
use Rattle.sk_plain.specs.Refusal.{error_number}

-- a text that is said, and the terminal that it goes to
pub record Saying : Type 0 where
  pub to : ℕ
  pub text : List ℕ

abbrev pub StepTree : Type 0
StepTree = Step Entity EntityState Saying Refusal

-- ---- what becomes of the process

-- the process moves on to the next instruction, and has a number in r0
abbrev pub answered : Process → ℕ → Process
answered p n = given p 0 (Val.Num (pos n))

-- the process moves on, and has an error in r0
abbrev pub failed : Process → Errno → Process
failed p e = given p 0 (Val.Num (neg_ℤ (pos (error_number e))))

-- the process moves on, and has a text in its buffer and a number in r0
abbrev pub filled : Process → List ℕ → ℕ → Process
filled p text n = record p { place = p.place + 1; buffer = text; registers = slice_set p.registers 0 (Val.Num (pos n)) }

-- ---- what a register's value stands for

-- an object
abbrev pub object_in : Val → Option ObjId
object_in (Val.Obj o) = Some o
object_in _ = None

-- a number from 0 on
abbrev pub number_in : Val → Option ℕ
number_in (Val.Num (pos n)) = Some n
number_in _ = None

-- a number from 1 up to a greatest one
abbrev pub number_to : ℕ → Val → Option ℕ
number_to greatest (Val.Num (pos n)) = if nat_le 1 n && nat_le n greatest then Some n else None
number_to greatest _ = None

-- a process
abbrev pub who_in : Val → Option ℕ
who_in (Val.Who q) = Some q
who_in _ = None

-- ---- what is written

-- nothing but the process is written
abbrev pub alone : ℕ → Process → StepTree
alone pid p = Done ((Proc pid, Some (EntityState.Process p)) ∷ []) None

-- one entity is written beside it
abbrev pub with_write : ℕ → Entity → Value → Process → StepTree
with_write pid e v p = Done ((e, Some (EntityState.Value v)) ∷ (Proc pid, Some (EntityState.Process p)) ∷ []) None

-- the process is written, and after it another entity is made absent
abbrev pub with_removal : ℕ → Entity → Process → StepTree
with_removal pid e p = Done ((Proc pid, Some (EntityState.Process p)) ∷ (e, None) ∷ []) None

-- ---- what a row asks first

-- a row that looks at an object: the error 9 where the register holds none
abbrev pub on_object : ℕ → Process → (ObjId → Option EntityState → StepTree) → Option ObjId → StepTree
on_object pid p row (Some o) = Ask (Obj o) (row o)
on_object pid p row None = alone pid (failed p BadObject)

-- a row that takes a number: the error 22 where the register holds none that will do
abbrev pub on_number : ℕ → Process → (ℕ → StepTree) → Option ℕ → StepTree
on_number pid p row (Some n) = row n
on_number pid p row None = alone pid (failed p Invalid)

-- a row about what an object is, or the error where it is something else
abbrev pub or_failed : {A : Type 0} → ℕ → Process → (A → StepTree) → Result A Errno → StepTree
or_failed pid p row (Ok found) = row found
or_failed pid p row (Err error) = alone pid (failed p error)
