-- What a contract sees of a book and of a worker.
use Rattle.std.specs.Prelude.{ℕ, List, refl}
use Rattle.std.specs.Coded.{Coded, code_by, coded×, coded_ℕ, coded_list}
use Rattle.sk_kernel.specs.Opening.{OpeningView, opening_code}
use Rattle.sk_client.specs.Desk.{DeskView, desk_code}
use Rattle.sk_workers.specs.declared.entry.HistoryEntry.{HistoryEntry}
use Rattle.sk_workers.specs.declared.entry.Receipt.{Receipt}
use Rattle.sk_workers.specs.contracts.entry.HistoryEntry as entry_row

-- a desk, and the calls that were made of it, the oldest first
pub record BookView : Type 0 where
  pub desk : DeskView
  pub history : List HistoryEntry

abbrev pub book_code : Coded BookView
book_code =
    code_by (DeskView × List HistoryEntry) (coded× desk_code (coded_list entry_row.the_row.coded))
    (λ b. (b.desk, b.history)) (λ p. record { desk = p.0; history = p.1 }) (λ _. refl)

-- its number; how many calls of a turn it began; and a receipt for each of its calls, the oldest first
pub record WorkerView : Type 0 where
  pub number : ℕ
  pub turns : ℕ
  pub receipts : List Receipt

-- where a desk was opened, and the number of its first request: what is kept beside the lock
pub record SharedView : Type 0 where
  pub opening : OpeningView
  pub first : ℕ

abbrev pub shared_code : Coded SharedView
shared_code = code_by (OpeningView × ℕ) (coded× opening_code coded_ℕ) (λ s. (s.opening, s.first)) (λ p. record { opening = p.0; first = p.1 }) (λ _. refl)
