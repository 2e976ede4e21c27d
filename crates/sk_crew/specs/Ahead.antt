-- What a worker does before a turn.
use Rattle.std.specs.Prelude.{◌≡◌, ◌⊎◌, ◌<◌, ◌≤◌, ℕ, false, List, Option, Some, Result, slice_get}
use Rattle.sk_crew.specs.Base.{LeaseView, Refusal, Turn, HandIn, Answered, DeskCall, WorkerView, Told, TurnTold}
use Rattle.sk_crew.specs.Base.{begins_turn, Rounds}

-- a lease of this process that did no instruction yet
abbrev pub IsLent : ℕ → LeaseView → Type 0
IsLent pid l = (l.count ≡ 0) × (l.lent.pid ≡ pid)

-- a lease of the process that was asked for, which did no instruction yet
abbrev pub IsLentFor : Option ℕ → LeaseView → Type 0
IsLentFor pid l = (l.count ≡ 0) × (pid ≡ Some l.lent.pid)

-- a lease of the process whose turn is due, where one is, which did no instruction yet
abbrev pub IsLentNext : List ℕ → Rounds → LeaseView → Type 0
IsLentNext processes r l = (l.count ≡ 0) × (r.is_over ≡ false → slice_get processes r.at ≡ Some l.lent.pid)

-- a lease of this process that did 1 to n instructions
abbrev pub HasRun : ℕ → ℕ → LeaseView → Type 0
HasRun n pid l = (0 < l.count) × (l.count ≤ n) × (l.lent.pid ≡ pid)

-- nothing was handed in; or a lease of 1 to n private instructions of this process was handed in, and answered
abbrev pub RunsAhead : ℕ → ℕ → WorkerView → WorkerView → Type 0
RunsAhead n pid w w' =
    (w' ≡ w)
    ⊎ ((count : ℕ) × (answer : Result (Unit {0}) HandIn)
    × (0 < count) × (count ≤ n) × Told w (DeskCall.HandIn pid count) (Answered.HandedIn answer) w')

-- a turn of a process is begun and answered, and before the answer up to n of its private instructions were handed in
abbrev pub TakesTurn : ℕ → Result Turn Refusal → WorkerView → ℕ → WorkerView → Type 0
TakesTurn n answer w pid w' = (v : WorkerView) × RunsAhead n pid (begins_turn w) v × TurnTold answer v pid w'
