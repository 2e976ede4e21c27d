-- The next frame of a queue, whole, and where it is to be written.
use Rattle.std.specs.Prelude.{◌≡◌, ◌+◌, ◌-◌, ◌++◌, ℕ, nat_lt, List, length, drop, Option, Some, None, if◌then◌else◌, Result, Ok, Err}
use Rattle.sk_batches.specs.Base.{frame, option_or, Sealed, Refusal, Full, Short}
use Rattle.sk_batches.specs.Records.{payload}
use Rattle.sk_batches.specs.Queue.{QueueView, next_records, after_take}
use Rattle.sk_batches.specs.Calls.{take_refused, cause_of}
use Rattle.sk_batches.specs.Places.{PlacesView, behind, has_room}

-- the bytes of the next frame's payload
abbrev pub next_payload : QueueView → List ℕ
next_payload q = payload (next_records q)

-- the first cause against a frame, or none: what the queue says, then that the room is shorter than a head, then that the frame is longer
-- than one may be or its segment has no room for it
abbrev pub frame_refused : QueueView → PlacesView → ℕ → Option Refusal
frame_refused q p room =
    option_or (take_refused q (room - 24)) (if nat_lt room 24 then Some Short else if has_room p (length (next_payload q)) then None else Some Full)

-- the next frame: its number, and where it is to be written
abbrev pub sealed_of : QueueView → PlacesView → Sealed
sealed_of q p = record { frame = q.frame; segment = p.segment; offset = p.offset; len = 24 + length (next_payload q) }

-- the frame stands at the front of the room, which is as it was behind it; after a refusal nothing has changed
abbrev pub FramePost : Result Sealed Refusal → QueueView → PlacesView → List ℕ → QueueView → PlacesView → List ℕ → Type 0
FramePost (Ok sealed) q p room q' p' filled =
    (frame_refused q p (length room) ≡ None) × (sealed ≡ sealed_of q p) × (q' ≡ after_take q) × (p' ≡ behind p (length (next_payload q)))
    × (filled ≡ frame p.segment q.frame (next_payload q) ++ drop (24 + length (next_payload q)) room)
FramePost (Err why) q p room q' p' filled = (frame_refused q p (length room) ≡ cause_of why) × (q' ≡ q) × (p' ≡ p) × (filled ≡ room)
