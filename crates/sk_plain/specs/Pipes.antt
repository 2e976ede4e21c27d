-- The rows of the table on pipes.
use Rattle.std.specs.Prelude.{ℕ, ◌+◌, ◌==◌, nat_le, [], length, take, Option, Some, Result, Ok, Err, min, if◌then◌else◌}
use Rattle.sk_plain.specs.Base.{Refuse, ObjId, Obj, Put, Take, Shut, value_after, Process, EntityState, Blocked, Errno}
use Rattle.sk_plain.specs.Base.{BadObject, Invalid, BrokenPipe, Value}
use Rattle.sk_objects.specs.Pipe.{PipeView}
use Rattle.sk_objects.specs.declared.pipe.TheConstants.{PIPE_LIMIT}
use Rattle.sk_plain.specs.Rows.{StepTree, answered, failed, filled, alone, with_write, on_object, or_failed, on_number}

-- the pipe that is there: the error 9 where there is no object, 22 at another object
abbrev pub pipe_in : Option EntityState → Result PipeView Errno
pipe_in (Some (EntityState.Value (Value.Pipe held))) = Ok held
pipe_in (Some (EntityState.Value (Value.File bytes))) = Err Invalid
pipe_in (Some (EntityState.Value Value.Dir)) = Err Invalid
pipe_in _ = Err BadObject

-- a row about a pipe
abbrev pub on_pipe : ℕ → Process → (PipeView → StepTree) → Option EntityState → StepTree
on_pipe pid p row there = or_failed pid p row (pipe_in there)

-- the buffer appended, where the pipe is not shut; it waits where the buffer does not fit, and an empty one changes nothing
abbrev pub put_in : ℕ → Process → ObjId → PipeView → StepTree
put_in pid p o held =
    if held.shut then alone pid (failed p BrokenPipe)
    else if length p.buffer == 0 then alone pid (answered p 0)
    else if nat_le (length held.bytes + length p.buffer) PIPE_LIMIT
    then with_write pid (Obj o) (value_after (Value.Pipe held) (Put p.buffer)) (answered p (length p.buffer))
    else Refuse Blocked

-- `put rP`
abbrev pub put : ℕ → Process → Option ObjId → StepTree
put pid p pipe = on_object pid p (λ o. on_pipe pid p (put_in pid p o)) pipe

-- the first bytes are in the buffer and no longer in the pipe
abbrev pub taken : ℕ → Process → ObjId → PipeView → ℕ → StepTree
taken pid p o held count =
    with_write pid (Obj o) (value_after (Value.Pipe held) (Take count)) (filled p (take count held.bytes) count)

-- the first n bytes, or all that there are; at an empty pipe there is nothing to take, and it waits unless the pipe is shut
abbrev pub take_from : ℕ → Process → ObjId → PipeView → ℕ → StepTree
take_from pid p o held n =
    if length held.bytes == 0 then (if held.shut then alone pid (filled p [] 0) else Refuse Blocked)
    else taken pid p o held (min n (length held.bytes))

-- `take rP rN`
abbrev pub take_out : ℕ → Process → Option ObjId → Option ℕ → StepTree
take_out pid p pipe n = on_object pid p (λ o. on_pipe pid p (λ held. on_number pid p (take_from pid p o held) n)) pipe

-- `shut rP`; one that is shut stays so
abbrev pub shut : ℕ → Process → Option ObjId → StepTree
shut pid p pipe = on_object pid p (λ o. on_pipe pid p (λ held.
    if held.shut then alone pid (answered p 0)
    else with_write pid (Obj o) (value_after (Value.Pipe held) Shut) (answered p 0))) pipe
