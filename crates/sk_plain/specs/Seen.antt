-- A plan, seen with the process that it is for.
use Rattle.std.specs.Prelude.{true, ◌≡◌, ◌≤◌, ◌+◌, ◌<◌, ◌^◌, ℕ, List, [], ◌∷◌, Option, Some, None, Result, Ok, Err, IfOk, IfErr, length, unwrap_or, IsSome}
use Rattle.sk_plain.specs.Base.{Entity, Proc, Sig, Exit, Obj, Link, Copy, ContentView, LAST_VERSION, bytes_from}
use Rattle.sk_plain.specs.Base.{Process, Instruction, Input, moved, given, private_step, IsProcess, process_in}
use Rattle.sk_plain.specs.Base.{EntityState, perform, Refusal, StaleCopy, Plan, Row, Beside, Writes, Change}
use Rattle.sk_plain.specs.Act.{Scripts, StepTree, act, next_in, with_input}
use Rattle.sk_plain.specs.Rows.{answered, failed, filled}
use Rattle.sk_plain.specs.Files.{after_read, file_in, maker_of}
use Rattle.sk_plain.specs.Processes.{with_handler, returned, handling, forked_by}
use Rattle.sk_plain.specs.Replies.{fetched}
use Rattle.sk_plain.specs.Plan.{PlanView, LooksView, Nowhere, At, AtBoth, BecomesView, Empty, Exited, Linked, Cached, Changed, BesideView, Nothing, Says, One, Birth, Gone}
use Rattle.sk_plain.specs.Planned.{or_refused, planned, said_by, signals_read, CanDo, IsBeside, IsPlainRefusal}
use Rattle.sk_plain.specs.declared.plan.Looks.{Looks}
use Rattle.sk_plain.specs.declared.plan.ProcessChange.{ProcessChange}
use Rattle.sk_plain.specs.declared.becomes.Becomes.{Becomes}

-- ---- the process

-- a process after a small change
abbrev pub process_after : Process → Becomes → Process
process_after p Becomes.Moves = moved p
process_after p (Becomes.Gives r v) = given p r v
process_after p (Becomes.Handler place) = with_handler p place
process_after p Becomes.Returns = returned p p.saved
process_after p (Becomes.Handles n place) = handling p n place
process_after p (Becomes.Makes r o) = maker_of p r o
process_after p Becomes.Ends = record p { ended = true }

-- its counters have a next number
abbrev pub CanBecome : Process → Becomes → Type 0
CanBecome p (Becomes.Handles n place) = Unit {0}
CanBecome p Becomes.Ends = Unit {0}
CanBecome p (Becomes.Makes r o) = (p.place + 1 < 2 ^ 32) × (p.objects + 1 < 2 ^ 32)
CanBecome p _ = p.place + 1 < 2 ^ 32

-- the bytes that are read of what an entity has
abbrev pub text_at : Option EntityState → ℕ → ℕ → List ℕ
text_at (Some (EntityState.Value v)) at count = unwrap_or (bytes_from v at count) []
text_at _ at count = []

-- the bytes that are read of the entity that is looked at; none where no entity is
abbrev pub text_in : (Entity → Option EntityState) → Looks → ℕ → ℕ → List ℕ
text_in look (Looks.At e) at count = text_at (look e) at count
text_in look _ at count = []

-- what is answered with a text is a number, or its length
abbrev pub changed_by : (Entity → Option EntityState) → Looks → Process → ProcessChange → Process
changed_by look at p (ProcessChange.Does b) = process_after p b
changed_by look at p (ProcessChange.Fills from count n) = filled p (text_in look at from count) (unwrap_or n (length (text_in look at from count)))

abbrev pub CanChange : Process → ProcessChange → Type 0
CanChange p (ProcessChange.Does b) = CanBecome p b
CanChange p (ProcessChange.Fills from count n) = (p.place + 1 < 2 ^ 32) × (unwrap_or n 0 < 2 ^ 63)

-- ---- what is looked at and written

-- what a plan looks at, as entities
abbrev pub looked : Looks → LooksView
looked Looks.Nowhere = Nowhere
looked (Looks.At e) = At e
looked (Looks.AtName d name) = AtBoth (Obj d) (Link d name)

-- what an entity becomes, where the bytes that are written are the buffer of the process
abbrev pub written : Process → Writes → BecomesView
written p (Writes.Empty kind) = Empty kind
written p (Writes.Exited status) = Exited status
written p Writes.First = Cached (record { version = 1; bytes = p.buffer })
written p (Writes.Over version) = Changed (Change.SetCopy (record { version = version; bytes = p.buffer }))
written p (Writes.Cut size) = Changed (Change.CutTo size)
written p (Writes.Linked object) = Linked object
written p Writes.Put = Changed (Change.Put p.buffer)
written p (Writes.Take count) = Changed (Change.Take count)
written p Writes.Shut = Changed Change.Shut
written p (Writes.Signal n) = Changed (Change.PushSignal n)
written p Writes.TakeSignal = Changed Change.TakeSignal

abbrev pub beside_of : Process → Beside → BesideView
beside_of p Beside.Nothing = Nothing
beside_of p (Beside.One e w) = One e (written p w)
beside_of p (Beside.Gone e) = Gone e

-- a row
abbrev pub row_of : ProcessChange → Looks → Beside → Row
row_of change at beside = record { change = change; looks = at; beside = beside }

-- a version that a content can have
abbrev pub IsWritable : Beside → Type 0
IsWritable (Beside.One e (Writes.Over version)) = version ≤ LAST_VERSION
IsWritable b = Unit {0}

abbrev pub row_seen : (Entity → Option EntityState) → Process → Row → PlanView
row_seen look p r = record { process = changed_by look r.looks p r.change; looks = looked r.looks; beside = beside_of p r.beside }

-- ---- what a row writes

abbrev pub written_row : ℕ → Beside → List Entity
written_row pid Beside.Nothing = Proc pid ∷ []
written_row pid (Beside.One e w) = e ∷ Proc pid ∷ []
written_row pid (Beside.Gone e) = Proc pid ∷ e ∷ []

-- the entities that a plan writes
abbrev pub written_in : ℕ → Plan → List Entity
written_in pid (Plan.WritesFile o at) = Obj o ∷ Proc pid ∷ []
written_in pid (Plan.Received name) = Copy name ∷ Proc pid ∷ []
written_in pid (Plan.Forks r child place) = Proc child ∷ Sig child ∷ Exit child ∷ Proc pid ∷ []
written_in pid (Plan.Acts r) = written_row pid r.beside
written_in pid _ = Proc pid ∷ []

-- ---- the whole plan

-- the process after its private instruction
abbrev pub done_by : Process → Option Instruction → Process
done_by p (Some i) = unwrap_or (private_step p i) p
done_by p None = p

-- a process whose input is the server's content, at a fetch or at a store
abbrev pub process_given : Process → Input → Process
process_given p (Input.Fresh content) = fetched p content
process_given p (Input.Stale content) = failed p StaleCopy
process_given p _ = p

-- the content that an input brings
abbrev pub content_in : Input → ContentView
content_in (Input.Fresh content) = content
content_in (Input.Stale content) = content
content_in _ = record { version = 0; bytes = [] }

abbrev pub HasContent : Input → Type 0
HasContent (Input.Fresh content) = Unit {0}
HasContent (Input.Stale content) = Unit {0}
HasContent _ = ⊥

-- what a plan looks at beside its process
abbrev pub looks_of : Plan → Looks
looks_of (Plan.ReadsFile o at) = Looks.At (Obj o)
looks_of (Plan.WritesFile o at) = Looks.At (Obj o)
looks_of (Plan.Acts r) = r.looks
looks_of _ = Looks.Nowhere

module _ (look : Entity → Option EntityState) (i : Option Instruction) (input : Input) (p : Process) where
  abbrev pub process_of : Plan → Process
  process_of Plan.Private = done_by p i
  process_of Plan.Speaks = moved p
  process_of (Plan.ReadsFile o at) = after_read p (file_in (look (Obj o))) at
  process_of (Plan.WritesFile o at) = answered p (length p.buffer)
  process_of (Plan.Forks r child place) = forked_by p r child
  process_of (Plan.Received name) = process_given p input
  process_of (Plan.Acts r) = changed_by look r.looks p r.change

  abbrev pub written_of : Plan → BesideView
  written_of Plan.Private = Nothing
  written_of Plan.Speaks = Says
  written_of (Plan.ReadsFile o at) = Nothing
  written_of (Plan.WritesFile o at) = One (Obj o) (Changed (Change.WriteAt at p.buffer))
  written_of (Plan.Received name) = One (Copy name) (Cached (content_in input))
  written_of (Plan.Forks r child place) = Birth (record { pid = child; place = place; registers = p.registers })
  written_of (Plan.Acts r) = beside_of p r.beside

  -- the plan of a process whose next instruction this is
  abbrev pub seen : Plan → PlanView
  seen plan = record { process = process_of plan; looks = looked (looks_of plan); beside = written_of plan }

  -- what it does to the process can be done
  abbrev pub Fits : Plan → Type 0
  Fits Plan.Private = IsSome i × (p.place + 1 < 2 ^ 32)
  Fits (Plan.Forks r child place) = (p.place + 1 < 2 ^ 32) × (p.children + 1 < 2 ^ 16)
  Fits (Plan.Received name) = (p.place + 1 < 2 ^ 32) × HasContent input
  Fits (Plan.Acts r) = CanChange p r.change × IsWritable r.beside
  Fits _ = p.place + 1 < 2 ^ 32

  -- what a step does after these reads: its plan, which can be done and writes no process but its own, or a refusal
  pub record PlansAfter (reads : List Entity) (pid : ℕ) (step : StepTree) (result : Result Plan Refusal) : Type 0 where
    pub plans : perform look step ≡ planned reads look pid (or_refused seen result)
    pub can : IfOk result (λ plan. CanDo look (written_of plan))
    pub apart : IfOk result (λ plan. IsBeside pid (written_of plan))
    pub fits : IfOk result Fits
    pub named : IfErr result IsPlainRefusal

-- a plan is that of a step without input, whatever instruction is next
abbrev pub PlansAny : (Entity → Option EntityState) → Process → ℕ → StepTree → Plan → Type 0
PlansAny look p pid step plan = (i : Option Instruction) → PlansAfter look i Input.None p [] pid step (Ok plan)

-- a plan is that of a step whose input is a reply
abbrev pub PlansReply : (Entity → Option EntityState) → Option Instruction → Input → Process → ℕ → Result Plan Refusal → Type 0
PlansReply look i input p pid result = PlansAfter look i input p [] pid (with_input pid p i input) result

-- a plan says nothing
abbrev pub IsQuiet : (Entity → Option EntityState) → Option Instruction → Input → Process → Plan → Type 0
IsQuiet look i input p plan = said_by (seen look i input p plan) ≡ None

-- a plan that was put into a place, or a refusal
abbrev pub told : {X : Type 0} → Result X Refusal → Plan → Result Plan Refusal
told (Ok done) plan = Ok plan
told (Err why) plan = Err why

-- a row is what a step of the table does, which can be done, or the refusal is that step's
pub record PlansRow (look : Entity → Option EntityState) (p : Process) (pid : ℕ) (step : StepTree) (result : Result Row Refusal) : Type 0 where
  pub plans : perform look step ≡ planned [] look pid (or_refused (row_seen look p) result)
  pub can : IfOk result (λ r. CanDo look (beside_of p r.beside))
  pub apart : IfOk result (λ r. IsBeside pid (beside_of p r.beside))
  pub fits : IfOk result (λ r. CanChange p r.change × IsWritable r.beside)
  pub named : IfErr result IsPlainRefusal

-- the plan is to do the next instruction of a process, which is this private one
abbrev pub IsNext : Plan → Option Instruction → Instruction → Type 0
IsNext plan next i = (plan ≡ Plan.Private) × (next ≡ Some i)

-- the plan is to do the next instruction of the process that is there, which is this private one
pub record DoesNext (look : Entity → Option EntityState) (scripts : Scripts) (pid : ℕ) (plan : Plan) (i : Instruction) : Type 0 where
  pub private : plan ≡ Plan.Private
  pub next : next_in scripts (process_in (look (Proc pid))) ≡ Some i

module _ (look : Entity → Option EntityState) (scripts : Scripts) (pid : ℕ) (input : Input) where
  -- the plan of the process that is there
  abbrev pub seen_with : Plan → PlanView
  seen_with plan = let p = process_in (look (Proc pid)) in seen look (next_in scripts p) input p plan

  -- the process is there, and what is planned can be done
  pub record CanPerform (plan : Plan) : Type 0 where
    pub there : IsProcess (look (Proc pid))
    pub fits : let p = process_in (look (Proc pid)) in Fits look (next_in scripts p) input p plan
    pub can : CanDo look (seen_with plan).beside
    pub apart : IsBeside pid (seen_with plan).beside

  -- that of the next step of a process with an input
  pub record PlansStep (result : Result Plan Refusal) : Type 0 where
    pub plans : perform look (act scripts pid input) ≡ planned (Proc pid ∷ signals_read pid input) look pid (or_refused seen_with result)
    pub can : IfOk result CanPerform
    pub apart : IfOk result (λ plan. IsBeside pid (seen_with plan).beside)
    pub named : IfErr result IsPlainRefusal
