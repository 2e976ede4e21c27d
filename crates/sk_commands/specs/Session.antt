-- The queue of a channel: what each request comes to.
use Rattle.std.specs.Prelude.{◌≡◌, ℕ, ◌+◌, ◌-◌, ◌^◌, min, length, Bool, true, false, List, [], ◌∷◌, ◌++◌, Option, Some, None, Result, Ok, Err}
use Rattle.sk_commands.specs.Base.{AllocError, Command, Order, Run, Multi, Exec, Discard, Fault, Nested, ExecAlone}
use Rattle.sk_commands.specs.Base.{DiscardAlone, Aborted, Word, Simple, Error, Queue, Work, Say, One, Each}

-- what a request comes to: the queue that is open behind it, and what is to be done
pub record Turn : Type 0 where
  pub queue : Option Queue
  pub work : Work

abbrev pub turns : Option Queue → Work → Turn
turns queue work = record { queue = queue; work = work }

-- a word or a fault is replied
abbrev pub says : Option Queue → Word → Turn
says queue said = turns queue (Say (Simple said))

abbrev pub refuses : Option Queue → Fault → Turn
refuses queue fault = turns queue (Say (Error fault))

-- a queue without commands; one with a command more; one that is not to be carried out
abbrev pub no_commands : Queue
no_commands = record { commands = []; spoiled = false }

abbrev pub one_more : Queue → Command → Queue
one_more queue command = record queue { commands = queue.commands ++ command ∷ [] }

abbrev pub spoilt : Queue → Queue
spoilt queue = record queue { spoiled = true }

-- a queue is carried out, unless a fault was told
abbrev pub executes : Bool → List Command → Turn
executes true commands = refuses None Aborted
executes false commands = turns None (Each commands)

-- what a request comes to: by the queue that is open, if one is, and by what its words say
abbrev pub turn : Option Queue → Result Order Fault → Turn
turn None (Ok (Run command)) = turns None (One command)
turn None (Ok Multi) = says (Some no_commands) Word.Ok
turn None (Ok Exec) = refuses None ExecAlone
turn None (Ok Discard) = refuses None DiscardAlone
turn None (Err fault) = refuses None fault
turn (Some queue) (Ok (Run command)) = says (Some (one_more queue command)) Word.Queued
turn (Some queue) (Ok Multi) = refuses (Some queue) Nested
turn (Some queue) (Ok Exec) = executes queue.spoiled queue.commands
turn (Some queue) (Ok Discard) = says None Word.Ok
turn (Some queue) (Err fault) = refuses (Some (spoilt queue)) fault

-- how many bytes words take where they are kept, beyond so many, up to the greatest number: each has 64 beside its own
abbrev pub weighed : List (List ℕ) → ℕ → ℕ
weighed [] n = n
weighed (word ∷ words) n = weighed words (min (min (n + length word) (2 ^ 64 - 1) + 64) (2 ^ 64 - 1))

-- how many bytes the requests take that came since a queue was opened which is open still
abbrev pub bytes_left : Option Queue → Option Queue → List (List ℕ) → ℕ → ℕ
bytes_left (Some old) (Some new) words n = weighed words n
bytes_left old new words n = 0

-- What is left and answered. There may be no memory for a command that is to be queued; then the queue is not to be carried out.
abbrev pub Takes : Option Queue → Result Order Fault → Result Work AllocError → Option Queue → Type 0
Takes old order (Ok work) new = (work ≡ (turn old order).work) × (new ≡ (turn old order).queue)
Takes None order (Err out_of_memory) new = ⊥
Takes (Some queue) order (Err out_of_memory) new = new ≡ Some (spoilt queue)
