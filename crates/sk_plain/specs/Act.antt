-- One step of a process, as a tree: what each instruction does, and what a process does next.
use Rattle.std.specs.Prelude.{ℕ, ◌==◌, Bool, true, false, List, [], ◌∷◌, Option, Some, None, slice_get, if◌then◌else◌}
use Rattle.sk_plain.specs.Base.{list_any, Ask, Refuse, Done, System, Entity, Proc, Sig, entity_cmp, TEXT_LIMIT}
use Rattle.sk_plain.specs.Base.{LAST_SIGNAL, TakeSignal, value_after, held, Process, moved, private_step, Instruction}
use Rattle.sk_plain.specs.Base.{get, Input, ScriptMap, EntityState, Refusal, NoProcess, Ended, NeedsReply, Kind, Value}
use Rattle.sk_trace.specs.declared.event.Entry.{Entry}
use Rattle.sk_plain.specs.Rows.{object_in, number_in, number_to, who_in, alone, with_write}
use Rattle.sk_plain.specs.Files.{made, size, read, write, cut}
use Rattle.sk_plain.specs.Names.{look, link, unlink}
use Rattle.sk_plain.specs.Pipes.{put, take_out, shut}
use Rattle.sk_plain.specs.Processes.{KILL, KILLED, with_handler, returned, handling, status_of, ended_with, kill, fork, wait}
use Rattle.sk_plain.specs.Replies.{good, fresh, stale}
pub use Rattle.sk_plain.specs.Rows.{Saying, StepTree}

-- the scripts of a kernel, by name
abbrev pub Scripts : Type 0
Scripts = ScriptMap

-- ---- the table

-- what an instruction does that is not private, without input
abbrev pub row : ℕ → Process → Instruction → StepTree
row pid p (Instruction.Handler place) = alone pid (with_handler p place)
row pid p Instruction.Return = alone pid (returned p p.saved)
row pid p Instruction.Say = Done ((Proc pid, Some (EntityState.Process (moved p))) ∷ []) (Some (record { to = p.terminal; text = p.buffer }))
row pid p (Instruction.MakeFile r) = made pid p r Kind.File
row pid p (Instruction.MakeDir r) = made pid p r Kind.Dir
row pid p (Instruction.MakePipe r) = made pid p r Kind.Pipe
row pid p (Instruction.Look r d name) = look pid p r (object_in (held p.registers d)) name
row pid p (Instruction.Link d name r) = link pid p (object_in (held p.registers d)) name (object_in (held p.registers r))
row pid p (Instruction.Unlink d name) = unlink pid p (object_in (held p.registers d)) name
row pid p (Instruction.Size f) = size pid p (object_in (held p.registers f))
row pid p (Instruction.Write f at) = write pid p (object_in (held p.registers f)) (number_in (held p.registers at))
row pid p (Instruction.Read f at) = read pid p (object_in (held p.registers f)) (number_in (held p.registers at))
row pid p (Instruction.Cut f n) = cut pid p (object_in (held p.registers f)) (number_in (held p.registers n))
row pid p (Instruction.Put q) = put pid p (object_in (held p.registers q))
row pid p (Instruction.Take q n) = take_out pid p (object_in (held p.registers q)) (number_to TEXT_LIMIT (held p.registers n))
row pid p (Instruction.Shut q) = shut pid p (object_in (held p.registers q))
row pid p (Instruction.Fork r place) = fork pid p r place
row pid p (Instruction.Wait r w) = wait pid p r (who_in (held p.registers w))
row pid p (Instruction.Kill w n) = kill pid p (who_in (held p.registers w)) (number_to LAST_SIGNAL (held p.registers n))
row pid p (Instruction.Exit r) = ended_with pid p (status_of (held p.registers r))
row pid p (Instruction.Fetch name) = Refuse NeedsReply
row pid p (Instruction.Store name) = Refuse NeedsReply
row pid p private = alone pid p

-- the frequent instructions that are not private
abbrev pub is_frequent : Instruction → Bool
is_frequent (Instruction.Read f at) = true
is_frequent (Instruction.Write f at) = true
is_frequent Instruction.Say = true
is_frequent (Instruction.MakeFile r) = true
is_frequent (Instruction.Look r d name) = true
is_frequent (Instruction.Link d name r) = true
is_frequent (Instruction.Unlink d name) = true
is_frequent other = false

-- a private instruction writes nothing but the process
abbrev pub private_or : ℕ → Option Process → StepTree → StepTree
private_or pid (Some next) other = alone pid next
private_or pid None other = other

-- a step without input; past the last instruction a process exits with status 0
abbrev pub does : ℕ → Process → Option Instruction → StepTree
does pid p (Some i) = private_or pid (private_step p i) (row pid p i)
does pid p None = ended_with pid p 0

-- ---- what a process does next

abbrev pub instruction_of : Option (List Instruction) → ℕ → Option Instruction
instruction_of (Some script) place = slice_get script place
instruction_of None place = None

-- the next instruction of a process
abbrev pub next_in : Scripts → Process → Option Instruction
next_in scripts p = instruction_of (get scripts p.script) p.place

-- the front signal goes to the handler, where one is set and no place is saved
abbrev pub handled : ℕ → Process → Option Instruction → List ℕ → Option ℕ → Option ℕ → StepTree
handled pid p i (n ∷ ns) (Some handler) None =
    with_write pid (Sig pid) (value_after (Value.Signals (n ∷ ns)) TakeSignal) (handling p n handler)
handled pid p i queue handler saved = does pid p i

-- signal 9 ends a process, and stays in its queue
abbrev pub due : ℕ → Process → Option Instruction → List ℕ → StepTree
due pid p i queue =
    if list_any (λ n. n == KILL) queue then ended_with pid p KILLED else handled pid p i queue p.handler p.saved

-- what a process with these signals does next
abbrev pub with_signals : ℕ → Process → Option Instruction → Option EntityState → StepTree
with_signals pid p i (Some (EntityState.Value (Value.Signals queue))) = due pid p i queue
with_signals pid p i _ = does pid p i

-- a step without input looks at the process's signals first
abbrev pub with_input : ℕ → Process → Option Instruction → Input → StepTree
with_input pid p i Input.None = Ask (Sig pid) (with_signals pid p i)
with_input pid p i Input.Good = good pid p i
with_input pid p i (Input.Fresh content) = fresh pid p content i
with_input pid p i (Input.Stale content) = stale pid p content i

abbrev pub goes_on : Scripts → ℕ → Input → Option EntityState → StepTree
goes_on scripts pid input (Some (EntityState.Process p)) =
    if p.ended then Refuse Ended else with_input pid p (next_in scripts p) input
goes_on scripts pid input _ = Refuse NoProcess

-- one step of a process with an input
abbrev pub act : Scripts → ℕ → Input → StepTree
act scripts pid input = Ask (Proc pid) (goes_on scripts pid input)

-- the plain kernel: how entities are ordered, what an entry does, the guess that it is marked with, and where a text goes
abbrev pub plain : Scripts → System Entity EntityState Saying Refusal Entry
plain scripts = record { order = entity_cmp; act = λ n. act scripts n.pid n.input; mark = λ n. n.guess; goes_to = λ w. w.to }
