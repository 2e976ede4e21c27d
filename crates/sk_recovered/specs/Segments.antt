-- What counts of the segments of a log.
use Rattle.std.specs.Prelude.{◌≡◌, ◌⊎◌, ◌&&◌, ◌+◌, ◌-◌, ◌==◌, ◌<◌, ℕ, Bool, true, false, nat_lt, List, [], ◌∷◌, ◌++◌, drop, length, take, Option, Some, None, if◌then◌else◌, IfSome, Result, Ok, Err}
use Rattle.sk_recovered.specs.Base.{AllocError, Crashed, BeginsAs, SaysNumber, Ends, IsLog, log, Head, Place}

-- ---- heads

-- Of a segment that begins so, however a crash left it, the first frame has this number; nothing is told only where none was told as synced.
abbrev pub TellsFirst : ℕ → List ℕ → Option ℕ → Type 0
TellsFirst segment bytes told = (number synced : ℕ) (payloads : List (List ℕ)) (left : List ℕ) → BeginsAs left bytes
    → Crashed segment number payloads synced left → IfSome told (λ first. first ≡ number) × (0 < synced → told ≡ Some number)

-- A whole head stands at the front of these bytes, and comes behind the others; or no frame begins there.
abbrev pub AddsHead : ℕ → List ℕ → List Head → Result Bool AllocError → List Head → Type 0
AddsHead segment bytes old (Ok true) new = (first : ℕ) × SaysNumber segment bytes first × TellsFirst segment bytes (Some first)
    × (new ≡ old ++ record { segment = segment; first = first } ∷ [])
AddsHead segment bytes old (Ok false) new = (new ≡ old) × TellsFirst segment bytes None
    × ((number : ℕ) (left : List ℕ) → BeginsAs left bytes → Ends segment number left)
AddsHead segment bytes old (Err out_of_memory) new = new ≡ old

abbrev pub lower : ℕ → Option ℕ → ℕ
lower first None = first
lower first (Some bound) = if nat_lt bound first then bound else first

-- the least number from which one of these segments goes on
abbrev pub least : List Head → Option ℕ
least [] = None
least (h ∷ heads) = Some (lower h.first (least heads))

-- ---- what counts

-- What was read of a segment: the number of its first frame, the least number from which a later one goes on, and the payloads of its frames.
pub record Part : Type 0 where
  pub first : ℕ
  pub bound : Option ℕ
  pub payloads : List (List ℕ)

-- whether a frame of this number is one that no later segment goes on from, nor from one before it
abbrev pub is_below : Option ℕ → ℕ → Bool
is_below None number = true
is_below (Some bound) number = nat_lt number bound

-- those of the payloads, the first of which has this number, that are below
abbrev pub below : Option ℕ → ℕ → List (List ℕ) → List (List ℕ)
below None first payloads = payloads
below (Some bound) first payloads = take (bound - first) payloads

abbrev pub counting : Bool → Part → List (List ℕ)
counting false p = []
counting true p = below p.bound p.first p.payloads

-- What counts of segments, where the next frame has this number: of one that begins with it the frames that are below, of any other nothing.
abbrev pub counted : ℕ → List Part → List (List ℕ)
counted next [] = []
counted next (p ∷ parts) =
    let own = counting (p.first == next) p in own ++ counted (next + length own) parts

-- ---- what was read

-- These are the frames of a segment with this head, before others.
pub record IsPart (head : Head) (later : List Head) (bytes : List ℕ) (p : Part) : Type 0 where
  pub first : p.first ≡ head.first
  pub bound : p.bound ≡ least later
  pub log : IsLog head.segment head.first p.payloads bytes

-- The first of these segments have these bytes, and these are their frames.
abbrev pub AreRead : List Head → List (List ℕ) → List Part → Type 0
AreRead heads [] [] = Unit {0}
AreRead heads (bytes ∷ more) [] = ⊥
AreRead (h ∷ heads) (bytes ∷ more) (p ∷ parts) = IsPart h heads bytes p × AreRead heads more parts
AreRead heads bytes parts = ⊥

-- A frame of a segment has this place; no later segment goes on from it, nor from one before it.
pub record IsAt (head : Head) (p : Part) (place : Place) : Type 0 where
  pub segment : place.segment ≡ head.segment
  pub before : ℕ
  pub number : place.number ≡ head.first + before
  pub there : before < length p.payloads
  pub counts : is_below p.bound place.number ≡ true
  pub offset : place.offset ≡ length (log head.segment head.first (take before p.payloads))

-- A frame of one of these segments has this place.
abbrev pub Stands : List Head → List Part → Place → Type 0
Stands heads [] place = ⊥
Stands (h ∷ heads) (p ∷ parts) place = IsAt h p place ⊎ Stands heads parts place
Stands heads parts place = ⊥

-- ---- what counts for nothing

-- how many bytes there are up to the last that is not 0
abbrev pub used : List ℕ → ℕ
used [] = 0
used (byte ∷ bytes) = if used bytes == 0 && byte == 0 then 0 else used bytes + 1

-- how long the frames of a segment are
abbrev pub frames_length : Head → Part → ℕ
frames_length head p = length (log head.segment head.first p.payloads)

-- how many bytes stand behind them
abbrev pub used_behind : Head → Part → List ℕ → ℕ
used_behind head p bytes = used (drop (frames_length head p) bytes)

-- How many bytes of a segment count for nothing, but for those that were cut off: those behind its frames, and its frames too where its first
-- is not the next.
abbrev pub dropped_of : Bool → Head → Part → List ℕ → ℕ
dropped_of true head p bytes = if is_below p.bound (p.first + length p.payloads) then used_behind head p bytes else 0
dropped_of false head p bytes = if is_below p.bound p.first then frames_length head p + used_behind head p bytes else 0

-- What is told of segments: the number of the next frame, in which segment and where the frames end, and how many bytes count for nothing.
pub record Reached : Type 0 where
  pub number : ℕ
  pub segment : ℕ
  pub offset : ℕ
  pub dropped : ℕ

-- The frames end in a segment whose first is the next, if no later one goes on from their end, nor from one before it.
abbrev pub reached_by : Head → Part → List ℕ → Reached → Reached
reached_by head p bytes r =
    let counts = p.first == r.number in
    let ends = counts && is_below p.bound (p.first + length p.payloads) in
    record {
      number = r.number + length (counting counts p);
      segment = if ends then head.segment else r.segment;
      offset = if ends then frames_length head p else r.offset;
      dropped = r.dropped + dropped_of counts head p bytes;
    }

abbrev pub reached_from : Reached → List Head → List (List ℕ) → List Part → Reached
reached_from r heads [] parts = r
reached_from r (h ∷ heads) (bytes ∷ more) (p ∷ parts) = reached_from (reached_by h p bytes r) heads more parts
reached_from r heads bytes parts = r

-- the first frame of all has this number
abbrev pub reached : ℕ → List Head → List (List ℕ) → List Part → Reached
reached first heads bytes parts = reached_from (record { number = first; segment = 0; offset = 0; dropped = 0 }) heads bytes parts
