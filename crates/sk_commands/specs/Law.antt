-- Commands as the steps of a kernel.
use Rattle.std.specs.Prelude.{ℕ, Bool, true, false, List, [], ◌∷◌, Option, Some, None, Result, Ok}
use Rattle.sk_commands.specs.Base.{nat_cmp, slice_cmp, Step, Ask, Done, System, Deed, Work, Answer, Order, Run, Exec, Fault}
use Rattle.sk_commands.specs.Table.{may_write, Have, Outcome}
use Rattle.sk_commands.specs.Work.{comes_to, looks_at, with_value}

-- asks for these keys, and then writes and says what comes of what they have
abbrev pub asking_for : List (List ℕ) → (Have → Outcome Answer) → ℕ → Have → Step (List ℕ) (List ℕ) (ℕ × Answer) (Unit {0})
asking_for [] comes channel has = Done (comes has).written (Some (channel, (comes has).reply))
asking_for (key ∷ keys) comes channel has = Ask key (λ answer. asking_for keys comes channel (with_value key answer has))

-- Work that came on a channel, where all keys are known: it looks at what it asks for alone.
abbrev pub act : ℕ → List (List ℕ) → Work → Step (List ℕ) (List ℕ) (ℕ × Answer) (Unit {0})
act channel known work = asking_for (looks_at known work) (comes_to known work) channel (λ key. None)

-- what work did, where keys have this
abbrev pub deed : ℕ → List (List ℕ) → Work → Have → Deed (List ℕ) (List ℕ) Answer
deed channel known work has = record
    { looked = looks_at known work; written = (comes_to known work has).written; said = Some (channel, (comes_to known work has).reply) }

-- Work, the channel that it came on, all keys as they are known, and the guess that its step is marked with.
pub record Entry : Type 0 where
  pub channel : ℕ
  pub known : List (List ℕ)
  pub work : Work
  pub guess : Option ℕ

-- the plain kernel of commands
abbrev pub commands : System (List ℕ) (List ℕ) (ℕ × Answer) (Unit {0}) Entry
commands = record { order = slice_cmp nat_cmp; act = λ n. act n.channel n.known n.work; mark = λ n. n.guess; goes_to = λ said. said.0 }

-- whether what words say may write, as a command or by carrying out a queue
abbrev pub may_write_said : Result Order Fault → Bool
may_write_said (Ok (Run command)) = may_write command
may_write_said (Ok Exec) = true
may_write_said other = false
