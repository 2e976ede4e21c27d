-- What a crash leaves of a log of segments, and what is recovered of it.
use Rattle.std.specs.Prelude.{◌≡◌, ◌+◌, ◌-◌, ◌<◌, ◌≤◌, false, ℕ, List, [], ◌∷◌, ◌++◌, length, map, take, Option, Some, None}
use Rattle.sk_recovered.specs.Base.{Crashed, synced_of, Work, Entries, payloads_of, works_in, AreLogged, after_works}
use Rattle.sk_recovered.specs.Base.{Head, Found}
use Rattle.sk_recovered.specs.Recovered.{is_damaged, IsFound}
use Rattle.sk_recovered.specs.Segments.{least}

-- A segment: its head, the works of the frames that were written into it, how many of these were told as synced, and what a crash left.
pub record Written : Type 0 where
  pub head : Head
  pub frames : List (List Work)
  pub synced : ℕ
  pub left : List ℕ

abbrev pub heads_of : List Written → List Head
heads_of segments = map (λ s. s.head) segments

abbrev pub bytes_of : List Written → List (List ℕ)
bytes_of segments = map (λ s. s.left) segments

-- A crash left this, the works are asked for by some requests, and later segments go on from frames of this one, or from the next.
pub record IsWritten (s : Written) (later : List Written) : Type 0 where
  pub crashed : Crashed s.head.segment s.head.first (payloads_of s.frames) s.synced s.left
  pub logged : AreLogged s.frames
  pub on : (bound : ℕ) → least (heads_of later) ≡ Some bound → bound ≤ s.head.first + length s.frames

abbrev pub AreWritten : List Written → Type 0
AreWritten [] = Unit {0}
AreWritten (s ∷ segments) = IsWritten s segments × AreWritten segments

-- the frames of a segment that no later one goes on from, nor from one before them, and those of the later ones
abbrev pub whole_at : Option ℕ → Written → List (List Work) → List (List Work)
whole_at None s later = s.frames
whole_at (Some bound) s later = take (bound - s.head.first) s.frames ++ later

-- the frames of the log, without those that were cut off
abbrev pub whole : List Written → List (List Work)
whole [] = []
whole (s ∷ segments) = whole_at (least (heads_of segments)) s (whole segments)

abbrev pub synced_at : Option ℕ → Written → ℕ → ℕ
synced_at None s later = s.synced
synced_at (Some bound) s later = synced_of (bound - s.head.first) s.synced later

-- how many of them, in a row, were told as synced
abbrev pub synced_in : List Written → ℕ
synced_in [] = 0
synced_in (s ∷ segments) = synced_at (least (heads_of segments)) s (synced_in segments)

-- No damage is told, where all frames up to one before this number were told as synced, no later one is known so, and no more was dropped than
-- may have been in flight.
abbrev pub NotTold : ℕ → Found → Type 0
NotTold synced found = (in_flight known : ℕ) → known < synced → found.dropped ≤ in_flight → is_damaged in_flight known found ≡ false

-- Whatever a crash leaves, what is found is the store behind the works of the first n frames of the log, for an n that takes in all that were told
-- as synced; no frame that was cut off is among them, the next frame's number is told, and no frame is damaged. So no crash left damage that is
-- told, where no frame is known as synced that was not told so, and no more was dropped than may have been in flight.
abbrev pub CrashesAreRecovered : Type 0
CrashesAreRecovered = (segments : List Written) (first left : ℕ) (start : Entries) (found : Found)
    → AreWritten segments → least (heads_of segments) ≡ Some first → IsFound start first (heads_of segments) (bytes_of segments) left found
    → NotTold (first + synced_in segments) found × (found.damage ≡ None) × ((n : ℕ) × (synced_in segments ≤ n) × (n ≤ length (whole segments))
    × (found.store ≡ after_works (works_in (take n (whole segments))) start) × (found.number ≡ first + n))
