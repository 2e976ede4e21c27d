-- When a book may be closed, and what its close promises of the history and of the workers.
use Rattle.std.specs.Prelude.{◌≡◌, ◌≢◌, ℕ, ◌+◌, ◌<◌, List, [], length, map, Some, slice_get, nat_lt, ◌^◌, if◌then◌else◌}
use Rattle.std.specs.List.{sum_by}
use Rattle.sk_kernel.specs.Opening.{opening_of}
use Rattle.sk_client.specs.Desk.{DeskView, pending}
use Rattle.sk_workers.specs.declared.entry.HistoryEntry.{HistoryEntry}
use Rattle.sk_workers.specs.declared.entry.Receipt.{Receipt}
use Rattle.sk_workers.specs.declared.entry.CloseRefusal.{CloseRefusal}
use Rattle.sk_workers.specs.Views.{BookView, WorkerView, SharedView}
use Rattle.sk_workers.specs.History.{IsLegal, AreOwn}

-- ---- where a desk began

-- a desk began there
abbrev pub IsFrom : SharedView → DeskView → Type 0
IsFrom s d = (opening_of d.kernel ≡ s.opening) × (d.first ≡ s.first)

-- ---- receipts that stand

-- a receipt stands at its place in the history, and above the one before it
abbrev pub Agrees : List HistoryEntry → List Receipt → ℕ → Type 0
Agrees history rs k =
    (r : Receipt) → slice_get rs k ≡ Some r
    → (slice_get history r.place ≡ Some r.entry) × ((j : ℕ) (s : Receipt) → j + 1 ≡ k → slice_get rs j ≡ Some s → s.place < r.place)

-- a worker's receipts are its own, each stands at its place, and the places rise
pub record Stands (history : List HistoryEntry) (w : WorkerView) : Type 0 where
  pub own : AreOwn w.number w.receipts
  pub agree : (k : ℕ) → k < length w.receipts → Agrees history w.receipts k

abbrev pub AllStand : List HistoryEntry → List WorkerView → Type 0
AllStand history ws = (i : ℕ) (w : WorkerView) → slice_get ws i ≡ Some w → Stands history w

-- no two workers have a receipt for one place
abbrev pub AreApart : List WorkerView → Type 0
AreApart ws =
    (i j k l : ℕ) (v w : WorkerView) (r s : Receipt) → slice_get ws i ≡ Some v → slice_get ws j ≡ Some w → i ≢ j
    → slice_get v.receipts k ≡ Some r → slice_get w.receipts l ≡ Some s → r.place ≢ s.place

abbrev pub receipts_of : List WorkerView → ℕ
receipts_of ws = sum_by (λ w. length w.receipts) ws

-- ---- workers

abbrev pub numbers : List WorkerView → List ℕ
numbers ws = map (λ w. w.number) ws

-- no two workers have one number
abbrev pub AreDistinct : List WorkerView → Type 0
AreDistinct ws = (i j : ℕ) (v w : WorkerView) → slice_get ws i ≡ Some v → slice_get ws j ≡ Some w → i ≢ j → v.number ≢ w.number

-- a turn more was begun; the number of turns stays at its last value
abbrev pub next_turn : ℕ → ℕ
next_turn turns = if nat_lt (turns + 1) (2 ^ 64) then turns + 1 else turns

-- a worker that has begun one turn more
abbrev pub begins_turn : WorkerView → WorkerView
begins_turn w = record w { turns = next_turn w.turns }

-- ---- a close

-- one legal history leads to the desk, which began at this opening and on which nothing is pending; it has the calls of all workers, each at
-- its receipt's place, and no others
pub record IsClosed (s : SharedView) (ws : List WorkerView) (history : List HistoryEntry) (d : DeskView) : Type 0 where
  pub legal : IsLegal history d
  pub from : IsFrom s d
  pub done : pending d ≡ []
  pub stand : AllStand history ws
  pub apart : AreApart ws
  pub count : length history ≡ receipts_of ws

-- this receipt does not stand, and all before it do
abbrev pub IsFirstBad : List HistoryEntry → List Receipt → ℕ → Type 0
IsFirstBad history rs k = (k < length rs) × (¬ Agrees history rs k) × ((j : ℕ) → j < k → Agrees history rs j)

-- this worker's receipt is the cause: the first that does not stand, of the first worker that has such a one
abbrev pub Disagrees : List HistoryEntry → List WorkerView → ℕ → ℕ → Type 0
Disagrees history ws number k =
    (i : ℕ) × (w : WorkerView) × (slice_get ws i ≡ Some w) × (w.number ≡ number) × IsFirstBad history w.receipts k
    × ((j : ℕ) (v : WorkerView) → j < i → slice_get ws j ≡ Some v → Stands history v)

-- why a close is refused, in the order of the causes: requests are pending, a receipt doesn't stand, or the desk began elsewhere
abbrev pub Refuses : SharedView → List WorkerView → BookView → CloseRefusal → Type 0
Refuses s ws b (CloseRefusal.Pending n) = (n ≡ length (pending b.desk)) × (0 < n)
Refuses s ws b (CloseRefusal.Disagree worker receipt) = (pending b.desk ≡ []) × Disagrees b.history ws worker receipt
Refuses s ws b CloseRefusal.Other = (pending b.desk ≡ []) × AllStand b.history ws × ¬ IsFrom s b.desk
