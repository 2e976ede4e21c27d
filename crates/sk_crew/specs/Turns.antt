-- The turns that a worker began, and those of a round in which each was answered `Ended`.
use Rattle.std.specs.Prelude.{◌≡◌, ◌⊎◌, ◌≤◌, ℕ, ◌+◌, ◌*◌, List, ◌++◌, Some, Err, slice_get}
use Rattle.sk_crew.specs.Base.{Contains, sum_by, Refusal, DeskCall, Answered, Receipt, WorkerView}

-- of so many workers the one of this number has the processes whose places are its number, and so many further on each time
abbrev pub IsOf : ℕ → ℕ → List ℕ → ℕ → Type 0
IsOf workers number processes pid =
    (round : ℕ) × (slice_get processes (number + workers * round) ≡ Some pid)

-- a turn counts as one, another call as none
abbrev pub turn_count : DeskCall → ℕ
turn_count (DeskCall.Turn pid) = 1
turn_count call = 0

-- how many of these receipts are for turns
abbrev pub turns_of : List Receipt → ℕ
turns_of rs = sum_by (λ (r : Receipt). turn_count r.entry.call) rs

-- a turn of this process is among these
abbrev pub HasTurn : List Receipt → ℕ → Type 0
HasTurn rs pid = (r : Receipt) × Contains rs r × (r.entry.call ≡ DeskCall.Turn pid)

-- each turn among these was answered `Ended`
abbrev pub AllEnded : List Receipt → Type 0
AllEnded rs = (r : Receipt) (pid : ℕ) → Contains rs r → r.entry.call ≡ DeskCall.Turn pid → r.entry.answer ≡ Answered.Turned (Err Refusal.Ended)

-- the rounds of a worker are over: among its last receipts is a turn of each of its processes, and each turn was answered `Ended`
pub record IsOver (workers : ℕ) (processes : List ℕ) (w : WorkerView) : Type 0 where
  pub before : List Receipt
  pub last : List Receipt
  pub whole : w.receipts ≡ before ++ last
  pub ended : AllEnded last
  pub each : (pid : ℕ) → IsOf workers w.number processes pid → HasTurn last pid

-- one of so many workers began at most so many turns, and just so many where its rounds are not over; it has a receipt for each but those for
-- which memory wanted, so that there are no more
pub record TookTurns (workers turns : ℕ) (processes : List ℕ) (w : WorkerView) : Type 0 where
  pub most : w.turns ≤ turns
  pub begun : (w.turns ≡ turns) ⊎ IsOver workers processes w
  pub told : turns_of w.receipts ≤ w.turns
