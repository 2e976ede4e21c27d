-- What a process does next, told without a step.
use Rattle.std.specs.Prelude.{ℕ, Bool, true, false, not, ◌&&◌, ◌||◌, ◌==◌, List, length, Option, Some, None, is_some, Result, Ok, Err, if◌then◌else◌}
use Rattle.sk_plain.specs.Base.{list_any, Effect, perform, Entity, Proc, Sig, private_step, Process, Instruction}
use Rattle.sk_plain.specs.Base.{EntityState, Refusal, NoProcess, Ended, Blocked, Input, Value}
use Rattle.sk_plain.specs.declared.next.Next.{Next}
use Rattle.sk_plain.specs.Act.{Scripts, Saying, act, next_in}
use Rattle.sk_plain.specs.Processes.{KILL}

-- a step without input takes a signal of this queue: the process is killed, or a handler is set and no place saved
abbrev pub takes_signal : Process → List ℕ → Bool
takes_signal p queue =
    list_any (λ n. n == KILL) queue || (not (length queue == 0) && (is_some p.handler && not (is_some p.saved)))

-- a signal is due
abbrev pub is_due : Process → Option EntityState → Bool
is_due p (Some (EntityState.Value (Value.Signals queue))) = takes_signal p queue
is_due p _ = false

abbrev pub is_blocked : Result (Effect Entity EntityState Saying) Refusal → Bool
is_blocked (Err Blocked) = true
is_blocked _ = false

-- a step without input waits
abbrev pub waits : (Entity → Option EntityState) → Scripts → ℕ → Bool
waits look scripts pid = is_blocked (perform look (act scripts pid Input.None))

abbrev pub is_private : Process → Option Instruction → Bool
is_private p (Some i) = is_some (private_step p i)
is_private p None = false

-- where no signal is due
abbrev pub next_instruction : (Entity → Option EntityState) → Scripts → ℕ → Process → Option Instruction → Next
next_instruction look scripts pid p (Some (Instruction.Fetch name)) = Next.Fetch name
next_instruction look scripts pid p (Some (Instruction.Store name)) = Next.Store name
next_instruction look scripts pid p i =
    if is_private p i then Next.Private else if waits look scripts pid then Next.Waits else Next.Other

-- what a process that goes on does next
abbrev pub next_going : (Entity → Option EntityState) → Scripts → ℕ → Process → Next
next_going look scripts pid p =
    if is_due p (look (Sig pid)) then Next.Signal
    else next_instruction look scripts pid p (next_in scripts p)

abbrev pub next_at : (Entity → Option EntityState) → Scripts → ℕ → Option EntityState → Result Next Refusal
next_at look scripts pid (Some (EntityState.Process p)) = if p.ended then Err Ended else Ok (next_going look scripts pid p)
next_at look scripts pid _ = Err NoProcess

-- what a process does next; of one that is not there, or has ended, why it does nothing
abbrev pub next_of : (Entity → Option EntityState) → Scripts → ℕ → Result Next Refusal
next_of look scripts pid = next_at look scripts pid (look (Proc pid))

-- what an instruction tells of it without a plan
abbrev pub heading : Option Instruction → Next
heading (Some (Instruction.Fetch name)) = Next.Fetch name
heading (Some (Instruction.Store name)) = Next.Store name
heading i = Next.Other

-- what is next, without what takes a plan to tell: a signal, a fetch and a store are told apart, and all else is `Other`
abbrev pub unplanned : Result Next Refusal → Result Next Refusal
unplanned (Err why) = Err why
unplanned (Ok Next.Signal) = Ok Next.Signal
unplanned (Ok (Next.Fetch name)) = Ok (Next.Fetch name)
unplanned (Ok (Next.Store name)) = Ok (Next.Store name)
unplanned (Ok next) = Ok Next.Other
