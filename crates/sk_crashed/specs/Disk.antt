-- What a disk may have of a log after a crash, and what a start reads of it.
use Rattle.std.specs.Prelude.{◌≡◌, ℕ, Bool, List, [], ◌∷◌, Option, Some, Ok, if◌then◌else◌}
use Rattle.sk_log.specs.Crash.{Crashed}
use Rattle.sk_log.specs.Front.{BeginsAs}
use Rattle.sk_batches.specs.Queue.{cut_due}
use Rattle.sk_batches.specs.declared.queue.Cut.{Cut}
use Rattle.sk_recovered.specs.declared.heads.Head.{Head}
use Rattle.sk_recovered.specs.Segments.{AddsHead}
use Rattle.sk_durable.specs.declared.store.Next.{Next}
use Rattle.sk_durable.specs.Calls.{Call}
use Rattle.sk_durable.specs.History.{synced}
use Rattle.sk_durable.specs.Store.{StoreView}
use Rattle.sk_crashed.specs.Written.{synced_in, written, Written}

-- a segment of a disk, and its bytes
pub record Stored : Type 0 where
  pub segment : ℕ
  pub bytes : List ℕ

-- Each has what a crash leaves of the head of the cut that is due, which was written and not told as synced.
abbrev pub AreTried : Option Cut → List Stored → Type 0
AreTried due [] = Unit {0}
AreTried due (d ∷ ds) = (cut : Cut) × (due ≡ Some cut) × Crashed d.segment cut.frame ([] ∷ []) 0 d.bytes × AreTried due ds

-- Each has what a crash leaves of what was written in its segment, and behind them may be some in which the cut that is due was tried.
abbrev pub AreLeft : List ℕ → Option Cut → List Written → List Stored → Type 0
AreLeft told due [] ds = AreTried due ds
AreLeft told due (w ∷ ws) [] = ⊥
AreLeft told due (w ∷ ws) (d ∷ ds) = (d.segment ≡ w.segment) × Crashed w.segment w.first w.payloads (synced_in told w ws) d.bytes
    × AreLeft told due ws ds

-- A crash of a store that did this may leave such a disk.
abbrev pub IsLeft : Next → List Call → StoreView → List Stored → Type 0
IsLeft next cs s disk = AreLeft (synced cs) (cut_due s.batched.queue) (written next cs) disk

-- ---- what is read

-- The fronts of these segments were added to the heads, one after another, and of those with a head these bytes are read.
abbrev pub AreAdded : List Head → List Stored → List Head → List (List ℕ) → Type 0
AreAdded old [] heads bytes = (heads ≡ old) × (bytes ≡ [])
AreAdded old (d ∷ ds) heads bytes =
    (front : List ℕ) × (there : Bool) × (mid : List Head) × (later : List (List ℕ)) × BeginsAs d.bytes front
    × AddsHead d.segment front old (Ok there) mid × (bytes ≡ (if there then d.bytes ∷ later else later)) × AreAdded mid ds heads later
