-- A queue of batches: what is in flight, what is decided, and what a cut leaves.
use Rattle.std.specs.Prelude.{◌&&◌, ◌==◌, ◌+◌, ◌-◌, ℕ, Bool, true, false, nat_lt, List, [], ◌∷◌, ◌++◌, length, map, Option, Some, None, if◌then◌else◌}
use Rattle.sk_batches.specs.Base.{list_any, sum_by, Stage, Kept, Sent, Synced, Failed, Refused, Batch, Cut, Decision}
use Rattle.sk_batches.specs.Base.{NUMBER_LIMIT}
use Rattle.sk_batches.specs.Records.{RecordView, kept, payload}

-- how many frames may be in flight and how many bytes undecided; the numbers of the open batch and of the next frame; whether a cut
-- was not done; the batches that were sent or are to be sent again, the oldest first; and the records of the open batch
pub record QueueView : Type 0 where
  pub most : ℕ
  pub most_bytes : ℕ
  pub number : ℕ
  pub frame : ℕ
  pub stopped : Bool
  pub batches : List Batch
  pub records : List RecordView

abbrev pub is_kept : Stage → Bool
is_kept Kept = true
is_kept other = false

abbrev pub is_sent : Stage → Bool
is_sent Sent = true
is_sent other = false

abbrev pub is_failed : Stage → Bool
is_failed Failed = true
is_failed other = false

abbrev pub is_refused : Stage → Bool
is_refused Refused = true
is_refused other = false

-- whether a frame was sent and is not decided, whatever was told of it
abbrev pub is_taken : Stage → Bool
is_taken Kept = false
is_taken Refused = false
is_taken other = true

-- ---- what is in flight

-- the frame of the first that was taken
abbrev pub first_taken : List Batch → Option ℕ
first_taken [] = None
first_taken (b ∷ bs) = if is_taken b.stage then Some b.frame else first_taken bs

abbrev pub frames_from : Option ℕ → ℕ → ℕ
frames_from None next = 0
frames_from (Some first) next = next - first

-- how many frames are in flight: from the first that was taken up to the next
abbrev pub in_flight : QueueView → ℕ
in_flight q = frames_from (first_taken q.batches) q.frame

abbrev pub undecided_of : List Batch → List RecordView → ℕ
undecided_of bs records = sum_by (λ b. length (payload b.records)) bs + length (payload records)

-- how many bytes are undecided
abbrev pub undecided : QueueView → ℕ
undecided q = undecided_of q.batches q.records

-- ---- a frame is taken

-- the records of the batches that are to be sent again
abbrev pub kept_of : Batch → List RecordView
kept_of b = if is_kept b.stage then b.records else []

abbrev pub kept_records : List Batch → List RecordView
kept_records [] = []
kept_records (b ∷ bs) = kept_of b ++ kept_records bs

-- the records of the next frame: first those that are logged anew, then those of the open batch
abbrev pub next_records : QueueView → List RecordView
next_records q = kept_records q.batches ++ q.records

-- a batch that is to be sent again is sent
abbrev pub send : ℕ → Batch → Batch
send frame b = if is_kept b.stage then record b { frame = frame; stage = Sent } else b

abbrev pub open_batch : QueueView → Batch
open_batch q = record { number = q.number; frame = q.frame; stage = Sent; records = q.records }

abbrev pub after_take : QueueView → QueueView
after_take q = record q
    { number = q.number + 1; frame = q.frame + 1; batches = map (send q.frame) q.batches ++ open_batch q ∷ []; records = [] }

-- ---- a frame is told of

abbrev pub awaits : ℕ → Batch → Bool
awaits frame b = is_sent b.stage && (b.frame == frame)

-- whether it was sent and nothing was told of it
abbrev pub is_awaited : ℕ → QueueView → Bool
is_awaited frame q = list_any (awaits frame) q.batches

abbrev pub tell : ℕ → Stage → Batch → Batch
tell frame stage b = if awaits frame b then record b { stage = stage } else b

abbrev pub after_word : ℕ → Stage → QueueView → QueueView
after_word frame stage q = record q { batches = map (tell frame stage) q.batches }

-- ---- what is decided

-- a batch whose frame was told as synced is decided once it is the oldest; one that is refused, too
abbrev pub decision_of : Stage → ℕ → Option Decision
decision_of Synced number = Some (Decision.Logged number)
decision_of Refused number = Some (Decision.Refused number)
decision_of other number = None

abbrev pub decided : List Batch → Option Decision
decided [] = None
decided (b ∷ bs) = decision_of b.stage b.number

abbrev pub is_decided : Stage → Bool
is_decided Synced = true
is_decided Refused = true
is_decided other = false

-- without the oldest batch, where it is decided
abbrev pub left : List Batch → List Batch
left [] = []
left (b ∷ bs) = if is_decided b.stage then bs else b ∷ bs

-- ---- a cut

-- the number of the last of these batches that is in a frame; this number, where none is
abbrev pub last_in : ℕ → ℕ → List Batch → ℕ
last_in frame number [] = number
last_in frame number (b ∷ bs) = if b.frame == frame then last_in frame b.number bs else last_in frame number bs

-- the first frame that failed, with its batches from the first to the last
abbrev pub first_failed : List Batch → Option Cut
first_failed [] = None
first_failed (b ∷ bs) =
    if is_failed b.stage then Some (record { frame = b.frame; first = b.number; last = last_in b.frame b.number bs }) else first_failed bs

-- the cut that is to be made: once a frame failed and nothing is to be told any more
abbrev pub cut_due : QueueView → Option Cut
cut_due q = if list_any (λ b. is_sent b.stage) q.batches then None else first_failed q.batches

-- the batches of the frame that failed are refused; what is behind them is logged anew, without what depends on them
abbrev pub cut_off : Cut → Batch → Batch
cut_off c b =
    if nat_lt b.frame c.frame then b
    else if b.frame == c.frame then record b { stage = Refused }
    else record b { stage = Kept; records = kept c.first c.last b.records }

-- the frame behind a cut: the cut has the number of the first frame that it took away
abbrev pub past : ℕ → ℕ
past frame = if nat_lt frame NUMBER_LIMIT then frame + 1 else frame

abbrev pub after_cut : Cut → QueueView → QueueView
after_cut c q = record q
    { frame = past c.frame; batches = map (cut_off c) q.batches; records = kept c.first c.last q.records }
