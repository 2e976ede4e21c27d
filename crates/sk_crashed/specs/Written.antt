-- What calls of a store wrote in the segments of its log.
use Rattle.std.specs.Prelude.{◌+◌, ◌-◌, ◌==◌, ℕ, zero, suc, List, [], ◌∷◌, ◌++◌, length, Option, Some, None, if◌then◌else◌}
use Rattle.sk_batches.specs.Records.{payload, RecordView}
use Rattle.sk_batches.specs.Runs.{has}
use Rattle.sk_recovered.specs.Segments.{lower}
use Rattle.sk_durable.specs.declared.store.Next.{Next}
use Rattle.sk_durable.specs.Calls.{Call, Sends, Turns, Cuts}

-- A segment: its number, that of its first frame, how many of its frames were synced when it was begun (1 where it begins with the head
-- of a cut or of a start, else 0), and the payloads of its frames.
pub record Written : Type 0 where
  pub segment : ℕ
  pub first : ℕ
  pub head : ℕ
  pub payloads : List (List ℕ)

-- the number of the frame behind its frames
abbrev pub end_of : Written → ℕ
end_of w = w.first + length w.payloads

-- ---- along calls

-- a store that begins at the front of a segment, or behind a head there: an empty frame that was synced before
abbrev pub begun : Next → Written
begun next =
    if next.offset == 0 then record { segment = next.segment; first = next.frame; head = 0; payloads = [] }
    else record { segment = next.segment; first = next.frame - 1; head = 1; payloads = [] ∷ [] }

-- what is written, with a frame of these records behind the others
abbrev pub with_frame : List RecordView → Written → Written
with_frame records w = record w { payloads = w.payloads ++ payload records ∷ [] }

-- the next segment, at its front
abbrev pub turned : Written → Written
turned w = record { segment = w.segment + 1; first = end_of w; head = 0; payloads = [] }

-- the next segment, behind the head of a cut: an empty frame with the number of the first that is cut off
abbrev pub cut_at : ℕ → Written → Written
cut_at frame w = record { segment = w.segment + 1; first = frame; head = 1; payloads = [] ∷ [] }

-- the segment that is written into after a call
abbrev pub written_by : Call → Written → Written
written_by (Sends sealed records) w = with_frame records w
written_by Turns w = turned w
written_by (Cuts cut) w = cut_at cut.frame w
written_by other w = w

-- the segment that a call leaves, if it does
abbrev pub left_by : Call → Written → List Written
left_by Turns w = w ∷ []
left_by (Cuts cut) w = w ∷ []
left_by other w = []

abbrev pub written_from : Written → List Call → List Written
written_from w [] = w ∷ []
written_from w (c ∷ cs) = left_by c w ++ written_from (written_by c w) cs

-- the segments of a log, in their order
abbrev pub written : Next → List Call → List Written
written next cs = written_from (begun next) cs

-- the segment that is written into then
abbrev pub now_in : Written → List Call → Written
now_in w [] = w
now_in w (c ∷ cs) = now_in (written_by c w) cs

-- ---- what is synced

-- the least number from which one of these segments goes on
abbrev pub least_of : List Written → Option ℕ
least_of [] = None
least_of (w ∷ ws) = Some (lower w.first (least_of ws))

-- how many first frames of a segment no later one goes on from, nor from one before them
abbrev pub live : Written → List Written → ℕ
live w later = lower (end_of w) (least_of later) - w.first

-- how many of so many frames, from this number on, the host said are synced, one after another
abbrev pub run : List ℕ → ℕ → ℕ → ℕ
run told frame zero = 0
run told frame (suc n) = if has frame told then suc (run told (frame + 1) n) else 0

-- how many first frames of a segment are synced: its head, and those of which the host said so
abbrev pub synced_in : List ℕ → Written → List Written → ℕ
synced_in told w later = w.head + run told (w.first + w.head) (live w later - w.head)
