-- The rows of the table on new objects and on files.
use Rattle.std.specs.Prelude.{ℕ, ◌+◌, ◌==◌, nat_lt, nat_le, List, length, Option, Some, None, Result, Ok, Err, slice_set, if◌then◌else◌}
use Rattle.sk_plain.specs.Base.{ObjId, Obj, TEXT_LIMIT, empty_of, WriteAt, CutTo, value_after, Process, EntityState}
use Rattle.sk_plain.specs.Base.{Errno, BadObject, IsDirectory, Invalid, TooBig, NoSpace, Kind, Val, Value}
use Rattle.sk_objects.specs.File.{part}
use Rattle.sk_objects.specs.declared.file.TheConstants.{FILE_LIMIT}
use Rattle.sk_plain.specs.Rows.{StepTree, answered, failed, filled, alone, with_write, on_object, or_failed, on_number}

-- ---- `mkfile rA`, `mkdir rA`, `mkpipe rA`

-- the object that a process makes next
abbrev pub next_object : ℕ → Process → ObjId
next_object pid p = record { maker = Some pid; count = p.objects + 1 }

-- the process after it made an object, which is in a register
abbrev pub maker_of : Process → ℕ → ObjId → Process
maker_of p r o = record p { place = p.place + 1; objects = p.objects + 1; registers = slice_set p.registers r (Val.Obj o) }

-- a new object of a kind, unless the counter of objects is at its last value
abbrev pub made : ℕ → Process → ℕ → Kind → StepTree
made pid p r kind =
    if nat_lt p.objects 4294967295
    then with_write pid (Obj (next_object pid p)) (empty_of kind) (maker_of p r (next_object pid p))
    else alone pid (failed p NoSpace)

-- ---- files

-- the bytes of the file that is there: the error 9 where there is no object, 21 at a directory, 22 at a pipe
abbrev pub file_in : Option EntityState → Result (List ℕ) Errno
file_in (Some (EntityState.Value (Value.File bytes))) = Ok bytes
file_in (Some (EntityState.Value Value.Dir)) = Err IsDirectory
file_in (Some (EntityState.Value (Value.Pipe held))) = Err Invalid
file_in _ = Err BadObject

-- a row about the bytes of a file
abbrev pub on_file : ℕ → Process → (List ℕ → StepTree) → Option EntityState → StepTree
on_file pid p row there = or_failed pid p row (file_in there)

-- `size rF`
abbrev pub size : ℕ → Process → Option ObjId → StepTree
size pid p file = on_object pid p (λ o. on_file pid p (λ bytes. alone pid (answered p (length bytes)))) file

-- the process after it read a file from a place on, as many bytes as a text holds, or its error
abbrev pub after_read : Process → Result (List ℕ) Errno → Option ℕ → Process
after_read p (Ok bytes) (Some n) = filled p (part bytes n TEXT_LIMIT) (length (part bytes n TEXT_LIMIT))
after_read p (Ok bytes) None = failed p Invalid
after_read p (Err error) at = failed p error

-- `read rF rO`
abbrev pub read : ℕ → Process → Option ObjId → Option ℕ → StepTree
read pid p file at = on_object pid p (λ o there. alone pid (after_read p (file_in there) at)) file

-- the buffer written at a place of a file; an empty buffer changes nothing
abbrev pub written_at : ℕ → Process → ObjId → List ℕ → ℕ → StepTree
written_at pid p o bytes at =
    if nat_le (at + length p.buffer) FILE_LIMIT
    then (if length p.buffer == 0 then alone pid (answered p 0)
    else with_write pid (Obj o) (value_after (Value.File bytes) (WriteAt at p.buffer)) (answered p (length p.buffer)))
    else alone pid (failed p TooBig)

-- `write rF rO`
abbrev pub write : ℕ → Process → Option ObjId → Option ℕ → StepTree
write pid p file at = on_object pid p (λ o. on_file pid p (λ bytes. on_number pid p (written_at pid p o bytes) at)) file

-- a file cut to a size; its own size changes nothing
abbrev pub cut_to : ℕ → Process → ObjId → List ℕ → ℕ → StepTree
cut_to pid p o bytes n =
    if nat_le n FILE_LIMIT
    then (if n == length bytes then alone pid (answered p 0)
    else with_write pid (Obj o) (value_after (Value.File bytes) (CutTo n)) (answered p 0))
    else alone pid (failed p TooBig)

-- `cut rF rN`
abbrev pub cut : ℕ → Process → Option ObjId → Option ℕ → StepTree
cut pid p file n = on_object pid p (λ o. on_file pid p (λ bytes. on_number pid p (cut_to pid p o bytes) n)) file
