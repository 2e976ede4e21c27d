-- The kernel as its callers see it: its number, scripts, start, trace limit, the statuses of earlier epochs, and what was done in this one. All else follows by definition.
use Rattle.std.specs.Prelude.{ℕ, ◌+◌, ◌-◌, ◌||◌, ◌&&◌, Bool, true, false, is_some, nat_le, nat_lt, List, [], ◌∷◌, ◌++◌, map, length, get_or, Option, Some, None, Result, Ok, Err, refl, if◌then◌else◌}
use Rattle.sk_kernel.specs.Base.{Coded, code_by, coded×, coded_ℕ, coded_list, fold, Effect, run, outcome, effects}
use Rattle.sk_kernel.specs.Base.{tags_along, Happens, IsTagOf, record_of, undecided_of, all_recorded, no_record, deps}
use Rattle.sk_kernel.specs.Base.{Tagged, StatusSince, Status, said, said_with, Entity, LAST_GUESS, ObjId}
use Rattle.sk_kernel.specs.Base.{DIRECTORY_LIMIT, GUESS_LIMIT, ScriptMap, script_map_code, BootView, Input, State}
use Rattle.sk_kernel.specs.Base.{names_in, start_of, EntityState, EntryView, event_code, Event, plain, Saying, adds_in}
use Rattle.sk_kernel.specs.Base.{next_of, Next, refusal_of, image, Refusal, NoProcess, Ended, Mismatch, NoRoom}
use Rattle.sk_kernel.specs.Base.{TooMany, state_code}
use Rattle.std.specs.FinMap as map
use Rattle.sk_record.specs.contracts.status.Status as status
use Rattle.sk_plain.specs.declared.refusal.Refusal.TheVariants.{TraceFull}

-- a kernel as contracts see it
pub record KernelView : Type 0 where
  pub number : ℕ
  -- the scripts that it was booted with
  pub scripts : ScriptMap
  -- where its trace begins
  pub start : State
  -- the most events that its trace may have
  pub limit : ℕ
  -- what became of the guesses of earlier epochs, which are 1, 2 and so on
  pub earlier : List Status
  pub trace : List Event

abbrev pub kernel_code : Coded KernelView
kernel_code =
    code_by (ℕ × (ScriptMap × (State × (ℕ × (List Status × List Event)))))
    (coded× coded_ℕ (coded× script_map_code (coded× state_code (coded× coded_ℕ (coded× (coded_list status.the_row.coded) (coded_list event_code))))))
    (λ k. (k.number, (k.scripts, (k.start, (k.limit, (k.earlier, k.trace))))))
    (λ p. record { number = p.0; scripts = p.1.0; start = p.1.1.0; limit = p.1.1.1.0; earlier = p.1.1.1.1.0; trace = p.1.1.1.1.1 }) (λ _. refl)

-- a kernel that was just booted
abbrev pub booted : ℕ → BootView → ℕ → KernelView
booted number boot limit = record { number = number; scripts = boot.scripts; start = start_of boot; limit = limit; earlier = []; trace = [] }

-- ---- what there is to see, by the definitions on the trace

-- the trace as the laws of traces have it
abbrev pub events_of : KernelView → List (Happens EntryView)
events_of k = map image k.trace

-- the steps that depend on no failed guess
abbrev pub record_at : KernelView → List EntryView
record_at k = record_of (plain k.scripts) k.start (events_of k)

-- what entities have: the run of these steps
abbrev pub state_at : KernelView → State
state_at k = run (plain k.scripts) k.start (record_at k)

-- the undecided guesses, by rising number
abbrev pub undecided_at : KernelView → List ℕ
undecided_at k = undecided_of (plain k.scripts) k.start (events_of k)

-- a guess has this status
abbrev pub HasStatus : KernelView → ℕ → Status → Type 0
HasStatus k id s = StatusSince (plain k.scripts) k.start k.earlier (events_of k) id s

-- an entity depends on an undecided guess
abbrev pub RestsOn : KernelView → Entity → ℕ → Type 0
RestsOn k e id = IsTagOf (plain k.scripts) k.start (events_of k) e id

-- the undecided guesses that an entity depends on, by rising number, as they are computed
abbrev pub tags_at : KernelView → Entity → List ℕ
tags_at k e = deps (plain k.scripts) k.start (all_recorded (plain k.scripts) k.start no_record (events_of k)) e

-- the texts said to a terminal by the steps that count, each with the undecided guesses that it depends on
abbrev pub texts_at : KernelView → ℕ → List (Tagged Saying)
texts_at k t =
    let ran = effects (plain k.scripts) k.start (record_at k) in
    said_with (plain k.scripts) t (tags_along (plain k.scripts).order (undecided_at k) (λ g. []) ran) ran

-- the texts that the record's steps say to a terminal, in their order
abbrev pub said_by_record : KernelView → ℕ → List Saying
said_by_record k t = map (λ x. x.0) (said (plain k.scripts) k.start (events_of k) t)

-- the places of the trace that are free, one kept for the decision of each undecided guess
abbrev pub room : KernelView → ℕ
room k = k.limit - length k.trace - length (undecided_at k)

-- the number of the last guess
abbrev pub number_after : ℕ → Event → ℕ
number_after last (Event.Guess id pid input) = id
number_after last _ = last

abbrev pub last_guess : KernelView → ℕ
last_guess k = fold number_after (length k.earlier) k.trace

-- the number that the next guess draws
abbrev pub next_guess : KernelView → ℕ
next_guess k = last_guess k + 1

-- the oldest undecided guess, or the next one: every guess below is decided
abbrev pub settled : KernelView → ℕ
settled k = get_or (undecided_at k) 0 (next_guess k)

-- ---- why a step is refused: the first cause, want of memory aside

-- the first cause, or the later one where there is none
abbrev pub or_else : Option Refusal → Option Refusal → Option Refusal
or_else (Some why) later = Some why
or_else None later = later

-- the entry of a step of a process with this input, which this guess marks, if one does
abbrev pub entry : ℕ → Input → Option ℕ → EntryView
entry pid input guess = record { pid = pid; input = input; guess = guess }

-- what the plain kernel does at an entry
abbrev pub effect_at : KernelView → EntryView → Result (Effect Entity EntityState Saying) Refusal
effect_at k n = outcome (plain k.scripts) (state_at k) n

-- a directory that has as many names as may be gets no other
abbrev pub crowded : State → Option ObjId → Option Refusal
crowded s None = None
crowded s (Some d) = if nat_le DIRECTORY_LIMIT (names_in s d) then Some NoRoom else None

-- a step that would add a name to such a directory
abbrev pub no_room : State → Result (Effect Entity EntityState Saying) Refusal → Option Refusal
no_room s (Err why) = None
no_room s (Ok f) = crowded s (adds_in f.written)

abbrev pub is_other : Next → Bool
is_other Next.Other = true
is_other _ = false

-- where a step without input that has no room is told apart
abbrev pub or_full : Option Refusal → Result Next Refusal → Result Next Refusal
or_full full (Ok next) = Ok (if is_other next && is_some full then Next.Full else next)
or_full full (Err why) = Err why

-- what a process does next
abbrev pub next_at : KernelView → ℕ → Result Next Refusal
next_at k pid =
    or_full (no_room (state_at k) (effect_at k (entry pid Input.None None))) (next_of (map.get (state_at k)) k.scripts pid)

abbrev pub trace_full : KernelView → ℕ → Option Refusal
trace_full k places = if nat_lt (room k) places then Some TraceFull else None

-- the trace's limit aside
abbrev pub step_misfit : KernelView → EntryView → Option Refusal
step_misfit k n = or_else (refusal_of (effect_at k n)) (no_room (state_at k) (effect_at k n))

-- why a step is refused, want of memory aside
abbrev pub step_refused : KernelView → EntryView → Option Refusal
step_refused k n = or_else (step_misfit k n) (trace_full k 1)

-- a guess needs an input
abbrev pub misfit : Result (Effect Entity EntityState Saying) Refusal → Refusal
misfit (Err NoProcess) = NoProcess
misfit (Err Ended) = Ended
misfit _ = Mismatch

-- why a guess with such an input is refused, the limits of the kernel aside
abbrev pub guess_misfits : Input → Result (Effect Entity EntityState Saying) Refusal → Option Refusal
guess_misfits Input.None does = Some (misfit does)
guess_misfits _ does = refusal_of does

-- as many guesses are undecided as may be, or no number is left
abbrev pub too_many : KernelView → Option Refusal
too_many k = if nat_le GUESS_LIMIT (length (undecided_at k)) || nat_lt LAST_GUESS (next_guess k) then Some TooMany else None

-- why a guess is refused, want of memory aside
abbrev pub guess_refused : KernelView → EntryView → Option Refusal
guess_refused k n = or_else (guess_misfits n.input (effect_at k n)) (or_else (too_many k) (trace_full k 2))

-- ---- what a call leaves

-- the kernel with one event more on its trace
abbrev pub with_event : KernelView → Event → KernelView
with_event k e = record k { trace = k.trace ++ e ∷ [] }
