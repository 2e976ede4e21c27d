-- Where the batches of a queue stand in the log, and which of them a cut takes away.
use Rattle.std.specs.Prelude.{◌≡◌, ◌&&◌, ◌==◌, ◌+◌, ◌<◌, ◌≤◌, ℕ, Bool, true, false, nat_le, List, [], ◌∷◌, length, Some}
use Rattle.sk_batches.specs.Base.{list_any, AllByRecursion, NUMBER_LIMIT, Batch, Stage, Kept, Refused, Cut}
use Rattle.sk_batches.specs.Calls.{new_queue}
use Rattle.sk_batches.specs.Queue.{cut_due, is_decided, is_failed, is_kept, is_taken, QueueView}
use Rattle.sk_batches.specs.Runs.{no_story, Call, Runs, Story}

-- whether a cut took it out of its frame
abbrev pub is_off : Stage → Bool
is_off Kept = true
is_off Refused = true
is_off other = false

-- a batch has a frame from the first on, before the next
pub record IsBetween (first next : ℕ) (b : Batch) : Type 0 where
  pub from : first ≤ b.frame
  pub before : b.frame < next
  pub numbered : b.frame < NUMBER_LIMIT

-- One stands behind another: its number is greater, and its frame is no lower; in one frame the same was told of both. What is
-- to be sent again comes last, and what a cut took away stands behind nothing that is not decided.
pub record IsBehind (b d : Batch) : Type 0 where
  pub number : b.number < d.number
  pub frame : is_kept d.stage ≡ false → b.frame ≤ d.frame
  pub alike : is_kept d.stage ≡ false → b.frame ≡ d.frame → b.stage ≡ d.stage
  pub last : is_kept b.stage ≡ true → is_kept d.stage ≡ true
  pub settled : is_off d.stage ≡ true → is_kept b.stage ≡ false → is_decided b.stage ≡ true

-- Their numbers are in a row, up to that of the open batch; each has a frame, unless it is to be sent again; and each stands
-- behind all before it.
abbrev pub AreDense : ℕ → ℕ → ℕ → List Batch → Type 0
AreDense first next number [] = Unit {0}
AreDense first next number (b ∷ bs) =
    (b.number + length (b ∷ bs) ≡ number) × (is_kept b.stage ≡ false → IsBetween first next b)
    × AllByRecursion (IsBehind b) bs × AreDense first next number bs

-- after any calls of a new queue its batches stand so
abbrev pub FramesAreDense : Type 0
FramesAreDense = (most most_bytes frame : ℕ) (cs : List Call) (q : QueueView) (s : Story)
    → Runs (new_queue most most_bytes frame) no_story cs q s
    → (frame ≤ q.frame) × AreDense frame q.frame q.number q.batches

-- where a batch stands as a cut is due, with its number: before its frame, decided; in it, failed; or behind it, sent
pub record IsAtCut (c : Cut) (b : Batch) : Type 0 where
  pub unkept : is_kept b.stage ≡ false
  pub earlier : b.frame < c.frame → (is_decided b.stage ≡ true) × (b.number < c.first)
  pub failed : b.frame ≡ c.frame → (is_failed b.stage ≡ true) × (c.first ≤ b.number) × (b.number ≤ c.last)
  pub later : c.frame < b.frame → (is_taken b.stage ≡ true) × (c.last < b.number)

-- a cut takes away a frame with all its batches, which are just those from the first to the last
pub record IsRange (c : Cut) (bs : List Batch) : Type 0 where
  pub in_order : c.first ≤ c.last
  pub each : AllByRecursion (IsAtCut c) bs
  pub numbers : (g : ℕ) → list_any (λ b. (b.frame == c.frame) && (b.number == g)) bs
      ≡ (nat_le c.first g && nat_le g c.last)

abbrev pub CutsARange : Type 0
CutsARange = (most most_bytes frame : ℕ) (cs : List Call) (q : QueueView) (s : Story) (c : Cut)
    → Runs (new_queue most most_bytes frame) no_story cs q s → cut_due q ≡ Some c → IsRange c q.batches
