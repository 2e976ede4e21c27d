-- Which calls are a worker's to make.
use Rattle.std.specs.Prelude.{◌≡◌, ◌<◌, ◌≤◌, ℕ, ◌+◌, List, [], ◌∷◌, ◌++◌, Some, length, flat_map, slice_get}
use Rattle.sk_crew.specs.Base.{Contains, Pid, Entity, state_at, DeskView, DeskCall, Receipt, WorkerView, numbers, fresh}
use Rattle.sk_crew.specs.Base.{CrewPlan}
use Rattle.std.specs.FinMap as map
use Rattle.sk_crew.specs.Turns.{IsOf, TookTurns}

-- the process that an entity is, if it is one
abbrev pub process_of : Entity → List Pid
process_of (Entity.Proc pid) = pid ∷ []
process_of entity = []

-- the processes of a desk, by rising number
abbrev pub processes_of : DeskView → List ℕ
processes_of d = flat_map process_of (map.keys (state_at d.kernel))

-- a turn is of a process that the worker has, a reply is given by worker 0, and a hand-in is of such a process too, with 1 to as many private
-- instructions as the plan says
abbrev pub IsDuty : CrewPlan → List ℕ → ℕ → DeskCall → Type 0
IsDuty plan processes number (DeskCall.Turn pid) = IsOf plan.workers number processes pid
IsDuty plan processes number (DeskCall.Reply reply) = number ≡ 0
IsDuty plan processes number (DeskCall.HandIn pid count) = IsOf plan.workers number processes pid × (0 < count) × (count ≤ plan.ahead)

-- each of a worker's receipts is for such a call
abbrev pub KeepsTo : CrewPlan → List ℕ → WorkerView → Type 0
KeepsTo plan processes w =
    (r : Receipt) → Contains w.receipts r → IsDuty plan processes w.number r.entry.call

abbrev pub AllKeepTo : CrewPlan → List ℕ → List WorkerView → Type 0
AllKeepTo plan processes ws = (w : WorkerView) → Contains ws w → KeepsTo plan processes w

abbrev pub AllTookTurns : CrewPlan → List ℕ → List WorkerView → Type 0
AllTookTurns plan processes ws = (w : WorkerView) → Contains ws w → TookTurns plan.workers plan.turns processes w

abbrev pub IsReply : DeskCall → Type 0
IsReply (DeskCall.Reply reply) = Unit {0}
IsReply call = ⊥

-- a worker gave replies and did nothing else: its last receipts are for these
abbrev pub OnlyReplies : WorkerView → WorkerView → Type 0
OnlyReplies w w' =
    (more : List Receipt) × (w' ≡ record w { receipts = w.receipts ++ more })
    × ((r : Receipt) → Contains more r → IsReply r.entry.call)

-- ---- workers before and after their rounds

-- a worker that has made no call yet
abbrev pub IsNew : WorkerView → Type 0
IsNew w = w ≡ fresh w.number

abbrev pub AreNew : List WorkerView → Type 0
AreNew ws = (w : WorkerView) → Contains ws w → IsNew w

-- a worker has its number; where each of its calls was its to make, each still is; and one that was new has taken its turns
abbrev pub WorksOn : CrewPlan → List ℕ → WorkerView → WorkerView → Type 0
WorksOn plan processes w w' =
    (w'.number ≡ w.number)
    × (KeepsTo plan processes w → KeepsTo plan processes w')
    × (IsNew w → TookTurns plan.workers plan.turns processes w')

-- as `WorksOn`, of a worker that carries too, where it is worker 0
abbrev pub LeadsOn : CrewPlan → List ℕ → WorkerView → WorkerView → Type 0
LeadsOn plan processes w w' =
    (w'.number ≡ w.number)
    × (w.number ≡ 0 → KeepsTo plan processes w → KeepsTo plan processes w')
    × (IsNew w → TookTurns plan.workers plan.turns processes w')

-- as `WorksOn`, of each of some workers, in their order
abbrev pub AllWorkOn : CrewPlan → List ℕ → List WorkerView → List WorkerView → Type 0
AllWorkOn plan processes ws ws' =
    (numbers ws' ≡ numbers ws)
    × (AllKeepTo plan processes ws → AllKeepTo plan processes ws')
    × (AreNew ws → AllTookTurns plan processes ws')

-- so many workers, numbered from 0
abbrev pub AreNumbered : ℕ → List WorkerView → Type 0
AreNumbered n ws =
    (length ws ≡ n) × ((i : ℕ) (w : WorkerView) → slice_get ws i ≡ Some w → w.number ≡ i)
