-- What holds of a book and of a worker between their calls.
use Rattle.std.specs.Prelude.{◌≡◌, ◌<◌, ℕ, List, length}
use Rattle.sk_client.specs.Desk.{DeskView}
use Rattle.sk_workers.specs.declared.entry.HistoryEntry.{HistoryEntry}
use Rattle.sk_workers.specs.declared.entry.Receipt.{Receipt}
use Rattle.sk_workers.specs.History.{IsLegal, AreOwn}

-- of a book whose ledger has so many parts, and counts so many calls
pub record IsTidyBook (history : List HistoryEntry) (desk : DeskView) (total parts : ℕ) : Type 0 where
  -- the history ends in the desk
  pub legal : IsLegal history desk
  -- the ledger counts its entries
  pub count : total ≡ length history
  -- the ledger has a part for a worker
  pub shared : 0 < parts

-- of a worker whose share is so many parts of the ledger, and counts so many calls
pub record IsTidyWorker (number : ℕ) (receipts : List Receipt) (parts amount : ℕ) : Type 0 where
  -- the worker has one part of the ledger
  pub part : parts ≡ 1
  -- its share counts its receipts
  pub count : amount ≡ length receipts
  -- its receipts are its own
  pub own : AreOwn number receipts
