-- Where frames stand in the segments of a log.
use Rattle.std.specs.Prelude.{◌≡◌, ◌+◌, ◌<◌, ◌≤◌, ◌^◌, ◌&&◌, ℕ, Bool, nat_lt, nat_le, Option, Some, None, if◌then◌else◌, Result, Ok, Err}
use Rattle.sk_batches.specs.Base.{Refusal, Full, NoNumber, Place}

-- how many bytes a segment has, the segment of the next frame, and where it begins there
pub record PlacesView : Type 0 where
  pub length : ℕ
  pub segment : ℕ
  pub offset : ℕ

abbrev pub places_at : ℕ → ℕ → ℕ → PlacesView
places_at length segment offset = record { length = length; segment = segment; offset = offset }

-- where a frame of so many bytes of payload, and its head of 24, would end
abbrev pub end_of : PlacesView → ℕ → ℕ
end_of p len = p.offset + (24 + len)

-- whether a frame may be so long, and has room in its segment
abbrev pub has_room : PlacesView → ℕ → Bool
has_room p len = nat_lt (24 + len) (2 ^ 28) && nat_le (end_of p len) p.length

-- where the next frame begins
abbrev pub place_of : PlacesView → Place
place_of p = record { segment = p.segment; offset = p.offset }

abbrev pub behind : PlacesView → ℕ → PlacesView
behind p len = record p { offset = end_of p len }

-- the number of the next segment, if there may be one
abbrev pub next_segment : PlacesView → Option ℕ
next_segment p = if nat_le (2 ^ 28) (p.segment + 1) then None else Some (p.segment + 1)

-- the next frame stands where the one before ended, within its segment; else nothing has changed
abbrev pub NextPost : Result Place Refusal → ℕ → PlacesView → PlacesView → Type 0
NextPost (Ok place) len old new =
    (end_of old len ≤ old.length) × (place ≡ place_of old) × (new ≡ behind old len)
NextPost (Err why) len old new = (old.length < end_of old len) × (why ≡ Full) × (new ≡ old)

-- the next segment is begun, behind a cut with the head of a frame
abbrev pub TurnPost : Bool → Result (Unit {0}) Refusal → PlacesView → PlacesView → Type 0
TurnPost cut (Ok _) old new =
    (old.segment + 1 < 2 ^ 28) × (new ≡ record old { segment = old.segment + 1; offset = if cut then 24 else 0 })
TurnPost cut (Err why) old new = (2 ^ 28 ≤ old.segment + 1) × (why ≡ NoNumber) × (new ≡ old)
