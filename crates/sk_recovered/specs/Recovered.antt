-- A plain store that is made again from the segments of a log.
use Rattle.std.specs.Prelude.{◌≡◌, ◌⊎◌, ◌&&◌, ◌||◌, ◌+◌, ◌==◌, ◌<◌, ℕ, Bool, true, false, nat_lt, is_some, if◌then◌else◌, List, [], ◌∷◌, ◌++◌, drop, length, Option, Some, None, IfSome, Result, Ok, Err}
use Rattle.sk_recovered.specs.Base.{option_map_or, AllocError, End, Ends, HasRead, Rest, Entries, Damage, Head, Found, Place, Recovered, Segment}
use Rattle.sk_recovered.specs.Frames.{capped, HasTaken, IsMade}
use Rattle.sk_recovered.specs.Segments.{counted, counting, least, is_below, reached, AreRead, IsAt, Part, Reached, Stands}

-- Where the frames of these segments end, and how many bytes count for nothing, with so many in segments without a head.
pub record HasReached (first : ℕ) (heads : List Head) (bytes : List (List ℕ)) (parts : List Part) (left : ℕ) (r : Recovered) : Type 0 where
  pub segment : r.segment ≡ (reached first heads bytes parts).segment
  pub offset : r.offset ≡ (reached first heads bytes parts).offset
  pub dropped : r.dropped ≡ capped ((reached first heads bytes parts).dropped + left)

-- The first of the segments with these heads have these bytes, so many count for nothing in segments without a head, and the store is that of
-- the start behind what counts.
pub record HasRecovered (start : Entries) (first : ℕ) (heads : List Head) (bytes : List (List ℕ)) (left : ℕ) (r : Recovered) : Type 0 where
  pub parts : List Part
  pub read : AreRead heads bytes parts
  pub heads_are : r.heads ≡ heads
  pub opened : r.opened ≡ length bytes
  pub first_is : r.first ≡ first
  pub taken : HasTaken first start (counted first parts) r.frames
  pub next : r.next ≡ first + length (counted first parts)
  pub reached : HasReached first heads bytes parts left r
  pub damaged : IfSome r.frames.damage (λ d. Stands heads parts d.place)

-- what was read so far of the segment
abbrev pub part_of : Segment → List (List ℕ) → Part
part_of s payloads = record { first = s.head.first; bound = s.bound; payloads = payloads }

-- what counts of all before it, and of it so far
abbrev pub counted_with : ℕ → List Part → Segment → List (List ℕ) → List (List ℕ)
counted_with first parts s payloads = counted first parts ++ counting s.counts (part_of s payloads)

-- A segment is being read, of which these bytes came: all segments before it are read, and its frames so far that count are
-- carried out too.
pub record IsWithin (start : Entries) (first : ℕ) (heads : List Head) (bytes : List (List ℕ)) (left : ℕ) (came : List ℕ) (s : Segment) : Type 0 where
  pub parts : List Part
  pub read : AreRead heads bytes parts
  pub heads_are : s.recovered.heads ≡ heads
  pub opened : s.recovered.opened ≡ length bytes + 1
  pub first_is : s.recovered.first ≡ first
  pub later : List Head
  pub is : drop (length bytes) heads ≡ s.head ∷ later
  pub bound : s.bound ≡ least later
  pub counts : s.counts ≡ (s.head.first == first + length (counted first parts))
  pub payloads : List (List ℕ)
  pub log : HasRead s.head.segment s.head.first payloads came s.log
  pub taken : HasTaken first start (counted_with first parts s payloads) s.recovered.frames
  pub next : s.recovered.next ≡ first + length (counted_with first parts s payloads)
  pub reached : HasReached first heads bytes parts left s.recovered
  pub damaged : IfSome s.recovered.frames.damage (λ d. Stands heads parts d.place ⊎ IsAt s.head (part_of s payloads) d.place)

-- Where a step leaves all that is known: a frame more was read; or none came whole.
abbrev pub StepPost : Segment → Result Bool AllocError → Segment → Type 0
StepPost old (Ok true) new = (length new.log.unread < length old.log.unread)
    × ((start : Entries) (first : ℕ) (heads : List Head) (bytes : List (List ℕ)) (left : ℕ) (came : List ℕ)
    → IsWithin start first heads bytes left came old → IsWithin start first heads bytes left came new)
StepPost old (Ok false) new = (new ≡ old) × Ends old.log.segment old.log.number old.log.unread
StepPost old (Err out_of_memory) new = Unit {0}

-- how many bytes these are
abbrev pub length_of : Rest → ℕ
length_of Rest.Zeros = 0
length_of (Rest.Torn n) = n
length_of (Rest.Damaged n) = n

-- how many bytes of a segment count for nothing that ends so, but for those that were cut off
abbrev pub drops : Segment → End → ℕ
drops s end =
    if s.counts then (if is_below s.bound end.number then length_of end.rest else 0)
    else if is_below s.bound s.head.first then end.place + length_of end.rest else 0

-- The next segment is begun; or all were read.
abbrev pub OpenPost : Recovered → Result Segment Recovered → Type 0
OpenPost old (Ok s) = (start : Entries) (first : ℕ) (heads : List Head) (bytes : List (List ℕ)) (left : ℕ)
    → HasRecovered start first heads bytes left old → IsWithin start first heads bytes left [] s
OpenPost old (Err same) = (same ≡ old) × ((start : Entries) (first : ℕ) (heads : List Head) (bytes : List (List ℕ)) (left : ℕ)
    → HasRecovered start first heads bytes left old → length bytes ≡ length heads)

-- the place of the frame that says no works, or else where the frames end
abbrev pub place_of : Option Damage → Place → Place
place_of damage end = option_map_or (λ d. d.place) damage end

-- where the frame stands that says no works, or else where the frames end
abbrev pub EndsIn : Option Damage → List Head → List Part → Reached → Found → Type 0
EndsIn None heads parts reached found = (found.segment ≡ reached.segment) × (found.offset ≡ reached.offset)
EndsIn (Some damage) heads parts reached found =
    Stands heads parts damage.place × (found.segment ≡ damage.place.segment) × (found.offset ≡ damage.place.offset)

-- Of the segments with these heads and bytes just what counts made the store, up to the first frame that says no works; its place, or that of
-- the next frame, is told, how much was carried out, and how many bytes count for nothing, with so many in segments without a head.
pub record IsFound (start : Entries) (first : ℕ) (heads : List Head) (bytes : List (List ℕ)) (left : ℕ) (found : Found) : Type 0 where
  pub parts : List Part
  pub read : AreRead heads bytes parts
  pub made : IsMade first start (counted first parts) found.store found.damage
  pub number : found.number ≡ first + length made.taken
  pub frames : found.frames ≡ length made.taken
  pub works : found.works ≡ capped (length made.works)
  pub place : EndsIn found.damage heads parts (reached first heads bytes parts) found
  pub dropped : found.dropped ≡ capped ((reached first heads bytes parts).dropped + left)

-- ---- what no crash left

-- whether the next frame is one of those up to one that is known as synced; 0 where none is
abbrev pub is_missing : ℕ → ℕ → Bool
is_missing known next = nat_lt 0 known && nat_lt next (known + 1)

-- whether a frame says no works, more was dropped than may have been in flight, or a frame is missing
abbrev pub is_damaged : ℕ → ℕ → Found → Bool
is_damaged in_flight known found = is_some found.damage || nat_lt in_flight found.dropped || is_missing known found.number
