-- What a plan stands for: the step's reads, writes and text.
use Rattle.std.specs.Prelude.{◌≢◌, ◌<◌, ℕ, List, [], ◌∷◌, ◌++◌, map, false, Option, Some, None, Result, Ok, Err}
use Rattle.sk_plain.specs.Base.{Effect, Entity, Proc, Sig, Exit, empty_of, Process, Input, TerminalMap, said_to}
use Rattle.sk_plain.specs.Base.{EntityState, Refusal, NoRoom, TooMany, TraceFull, Memory, Kind, Value}
use Rattle.sk_plain.specs.Act.{Saying}
use Rattle.sk_store.specs.Changed.{changed, FitsAt}
use Rattle.sk_plain.specs.Plan.{PlanView, LooksView, Nowhere, At, AtBoth, BecomesView, Empty, Exited, Linked, Cached, Changed, BesideView, Says, One, Birth, Gone, Child}

-- the entities that are looked at, in their order
abbrev pub looked_at : LooksView → List Entity
looked_at Nowhere = []
looked_at (At e) = e ∷ []
looked_at (AtBoth d e) = d ∷ e ∷ []

-- what an entity has after it became that
abbrev pub value_of : Option EntityState → BecomesView → EntityState
value_of now (Empty kind) = EntityState.Value (empty_of kind)
value_of now (Exited status) = EntityState.Value (Value.Exit (Some status))
value_of now (Linked object) = EntityState.Value (Value.Link object)
value_of now (Cached content) = EntityState.Value (Value.Copy content)
value_of now (Changed change) = changed now change

-- a child of a process
abbrev pub child_of : Process → Child → Process
child_of p c = record p { pid = c.pid; place = c.place; registers = c.registers; children = 0; objects = 0; saved = None; ended = false }

-- what is written beside the process
abbrev pub written_beside : (Entity → Option EntityState) → Process → BesideView → List (Entity × Option EntityState)
written_beside look p (One e becomes) = (e, Some (value_of (look e) becomes)) ∷ []
written_beside look p (Birth c) =
    (Proc c.pid, Some (EntityState.Process (child_of p c))) ∷ (Sig c.pid, Some (EntityState.Value (Value.Signals []))) ∷ (Exit c.pid, Some (EntityState.Value (Value.Exit None))) ∷ []
written_beside look p _ = []

-- what is made absent, after the process is written
abbrev pub gone_in : BesideView → List Entity
gone_in (Gone e) = e ∷ []
gone_in _ = []

-- the text that is said: the process's buffer, to its terminal
abbrev pub said_in : Process → BesideView → Option Saying
said_in p Says = Some (record { to = p.terminal; text = p.buffer })
said_in p _ = None

-- the text that a plan says, and for which terminal, if it says one
abbrev pub said_by : PlanView → Option Saying
said_by plan = said_in plan.process plan.beside

-- the texts after a step that depends on these guesses
abbrev pub texts_after : TerminalMap → List ℕ → Option Saying → TerminalMap
texts_after texts tags None = texts
texts_after texts tags (Some s) = said_to texts s.to (s.text, tags)

-- all that a plan writes
abbrev pub writes_of : (Entity → Option EntityState) → ℕ → PlanView → List (Entity × Option EntityState)
writes_of look pid plan = written_beside look plan.process plan.beside ++ (Proc pid, Some (EntityState.Process plan.process)) ∷ map (λ e. (e, None)) (gone_in plan.beside)

-- what a plan does after these reads
abbrev pub effect_after : List Entity → (Entity → Option EntityState) → ℕ → PlanView → Effect Entity EntityState Saying
effect_after reads look pid plan = record {
  read = map (λ e. (e, look e)) (reads ++ looked_at plan.looks);
  written = writes_of look pid plan;
  said = said_by plan;
}

-- the signals of the process are read by a step without input
abbrev pub signals_read : ℕ → Input → List Entity
signals_read pid Input.None = Sig pid ∷ []
signals_read pid _ = []

-- the whole step
abbrev pub effect_of : (Entity → Option EntityState) → ℕ → Input → PlanView → Effect Entity EntityState Saying
effect_of look pid input plan = effect_after (Proc pid ∷ signals_read pid input) look pid plan

-- a function of what was not refused, or the refusal
abbrev pub or_refused : {A B : Type 0} → (A → B) → Result A Refusal → Result B Refusal
or_refused f (Ok x) = Ok (f x)
or_refused f (Err why) = Err why

-- what a plan or a refusal stands for, after these reads
abbrev pub planned : List Entity → (Entity → Option EntityState) → ℕ → Result PlanView Refusal → Result (Effect Entity EntityState Saying) Refusal
planned reads look pid result = or_refused (effect_after reads look pid) result

-- a change that is planned fits what is there, and a link is not made empty
abbrev pub CanBecome : Option EntityState → BecomesView → Type 0
CanBecome now (Empty kind) = kind ≢ Kind.Link
CanBecome now (Changed change) = FitsAt now change
CanBecome now _ = Unit {0}

abbrev pub CanDo : (Entity → Option EntityState) → BesideView → Type 0
CanDo look (One e becomes) = CanBecome (look e) becomes
CanDo look _ = Unit {0}

abbrev pub IsNoProcess : Entity → Type 0
IsNoProcess (Proc p) = ⊥
IsNoProcess _ = Unit {0}

-- what is written beside a process is not the process
abbrev pub IsBeside : ℕ → BesideView → Type 0
IsBeside pid (One e becomes) = IsNoProcess e
IsBeside pid (Birth c) = pid < c.pid
IsBeside pid (Gone e) = IsNoProcess e
IsBeside pid _ = Unit {0}

-- a refusal that a step of the plain kernel can have
abbrev pub IsPlainRefusal : Refusal → Type 0
IsPlainRefusal NoRoom = ⊥
IsPlainRefusal TooMany = ⊥
IsPlainRefusal TraceFull = ⊥
IsPlainRefusal Memory = ⊥
IsPlainRefusal _ = Unit {0}

-- an input that is a reply
abbrev pub IsReply : Input → Type 0
IsReply Input.None = ⊥
IsReply _ = Unit {0}

-- the refusals that a step of the plain kernel has
abbrev pub refusal_of : Result (Effect Entity EntityState Saying) Refusal → Option Refusal
refusal_of (Ok f) = None
refusal_of (Err why) = Some why

-- the entities that a plan reads
abbrev pub read_by : ℕ → Input → LooksView → List Entity
read_by pid input looks = (Proc pid ∷ signals_read pid input) ++ looked_at looks

-- the entities that a plan writes
abbrev pub written_by : ℕ → BesideView → List Entity
written_by pid (One e becomes) = e ∷ Proc pid ∷ []
written_by pid (Birth c) = Proc c.pid ∷ Sig c.pid ∷ Exit c.pid ∷ Proc pid ∷ []
written_by pid (Gone e) = Proc pid ∷ e ∷ []
written_by pid _ = Proc pid ∷ []

-- a state after these writes, in their order
abbrev pub wrote_all : {S : Type 0} → (S → Entity → Option EntityState → S) → List (Entity × Option EntityState) → S → S
wrote_all wrote [] s = s
wrote_all wrote (w ∷ ws) s = wrote_all wrote ws (wrote s w.0 w.1)
