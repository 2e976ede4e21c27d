-- A log that is read again, whose bytes come in pieces.
use Rattle.std.specs.Prelude.{◌≡◌, ◌⊎◌, ◌+◌, ◌-◌, ◌==◌, ◌<◌, ◌≤◌, ◌^◌, ℕ, Bool, true, false, is_some, min, List, [], ◌∷◌, ◌++◌, drop, length, Option, Some, None, IfSome, Result, Ok, Err, if◌then◌else◌}
use Rattle.sk_handles.specs.Base.{slice_get, option_map, AllocError, frame, Entries, IsPiece, HasRecovered, IsFound}
use Rattle.sk_handles.specs.Base.{capped, is_damaged, used, IsWithin, AddsHead, snapshot_heads, Head, Found, Recovered, Segment, ABSENT, DONE}
use Rattle.sk_handles.specs.Base.{HELD, MEMORY, REFUSED, SHOWN, Anew, NoPiece, ReadCounts, Reading, Stage, Way, Told}
use Rattle.sk_handles.specs.Told.{just, opened, told_by}

-- nothing came; of the segments the first frame has this number
abbrev pub anew : ℕ → Reading
anew first = record { stage = Stage.Nothing; first = first; last = 0; segment = 0; left = 0; zeros = 0; next = 0; pieces = 1 }

-- a call that is not of this part of a recovery
abbrev pub order_refused : Told
order_refused = just REFUSED 14

-- what is told where all begins anew
abbrev pub anew_told : Anew → Told
anew_told Anew.Memory = just MEMORY 0
anew_told Anew.NoSnapshot = just REFUSED 15

-- ---- a snapshot

-- These bytes of a snapshot came.
abbrev pub HasCome : Segment → List ℕ → Type 0
HasCome s bytes = IsWithin [] 1 snapshot_heads [] 0 bytes s

-- What is found of a snapshot of which these bytes came.
abbrev pub FindsOf : Segment → Found → Type 0
FindsOf s found = (found.is_damaged ≡ is_damaged 0 0 found)
    × ((bytes : List ℕ) → HasCome s bytes → IsFound [] 1 snapshot_heads (bytes ∷ []) 0 found)

-- A snapshot sets these entries; or it is damaged, or something stands behind its frames, and it is none.
abbrev pub Sets : Segment → Result Entries Anew → Type 0
Sets s (Ok entries) = (found : Found) × FindsOf s found × (found.is_damaged ≡ false) × (entries ≡ found.store)
Sets s (Err Anew.NoSnapshot) = (found : Found) × FindsOf s found × (found.is_damaged ≡ true)
Sets s (Err Anew.Memory) = Unit {0}

-- a piece of a snapshot came behind what came of it; or, without memory, all begins anew
abbrev pub StartsOn : (List ℕ → Type 0) → List ℕ → Told → Reading → Reading → Type 0
StartsOn came piece told old new =
    ((told ≡ just DONE 0) × ((s : Segment) × (new ≡ record old { stage = Stage.Start s })
    × ((bytes : List ℕ) → came bytes → HasCome s (bytes ++ piece))))
    ⊎ ((told ≡ just MEMORY 0) × (new ≡ anew old.first))

-- A snapshot comes before all else.
abbrev pub TakesStartAt : Stage → List ℕ → Told → Reading → Reading → Type 0
TakesStartAt Stage.Nothing piece told old new = StartsOn (λ bytes. bytes ≡ []) piece told old new
TakesStartAt (Stage.Start s) piece told old new = StartsOn (HasCome s) piece told old new
TakesStartAt other piece told old new = (told ≡ order_refused) × (new ≡ old)

-- ---- segments begin

abbrev pub BeginsOf : Result Entries Anew → Result (Unit {0}) Anew → Reading → Reading → Type 0
BeginsOf (Ok entries) did old new = (did ≡ Ok tt) × (new ≡ record old { stage = Stage.Heads entries [] })
BeginsOf (Err why) did old new = (did ≡ Err why) × (new ≡ anew old.first)

-- The heads of segments come, behind what a snapshot set, if one came; what is none is refused.
abbrev pub BeginsAt : Stage → Result (Unit {0}) Anew → Reading → Reading → Type 0
BeginsAt Stage.Nothing did old new = BeginsOf (Ok []) did old new
BeginsAt (Stage.Start s) did old new = (set : Result Entries Anew) × Sets s set × BeginsOf set did old new
BeginsAt other did old new = (did ≡ Ok tt) × (new ≡ old)

-- after what was done first, the next is done; where the first was refused, that is told, nothing has changed, and `same` holds
abbrev pub Then : Result (Unit {0}) Anew → (Told → Reading → Reading → Type 0) → Type 0 → Told → Reading → Reading → Type 0
Then (Ok _) next same told old new = next told old new
Then (Err why) next same told old new = (told ≡ anew_told why) × (new ≡ old) × same

abbrev pub BeginsThen : (Told → Reading → Reading → Type 0) → Type 0 → Told → Reading → Reading → Type 0
BeginsThen next same told old new =
    (did : Result (Unit {0}) Anew) × (begun : Reading) × BeginsAt old.stage did old begun × Then did next same told begun new

-- ---- heads

abbrev pub with_heads : Result Bool AllocError → ℕ → Entries → List Head → Reading → Reading
with_heads (Ok is_whole) segment start heads read = record read { stage = Stage.Heads start heads; last = segment }
with_heads (Err out_of_memory) segment start heads read = record read { stage = Stage.Heads start heads }

-- while heads come this one comes behind the others, if it is whole
abbrev pub AddsTo : Stage → ℕ → List ℕ → Told → Reading → Reading → Type 0
AddsTo (Stage.Heads start heads) segment bytes told old new = (did : Result Bool AllocError) × (more : List Head)
    × AddsHead segment bytes heads did more × (told ≡ told_by (λ whole. just (if whole then DONE else ABSENT) 0) (λ _. just MEMORY 0) did)
    × (new ≡ with_heads did segment start more old)
AddsTo other segment bytes told old new = (told ≡ order_refused) × (new ≡ old)

-- segments come by rising number
abbrev pub TakesHead : ℕ → List ℕ → Told → Reading → Reading → Type 0
TakesHead segment bytes told old new = ((segment ≤ old.last) × (told ≡ order_refused) × (new ≡ old))
    ⊎ ((old.last < segment) × BeginsThen (λ told begun. AddsTo begun.stage segment bytes told begun) (Unit {0}) told old new)

-- ---- segments

-- The heads are those of a log whose first frame has this number and stands behind these entries, these bytes of its first segments came, and so
-- many count for nothing in later segments without a head.
abbrev pub HoldsFrom : ℕ → Stage → Entries → List Head → List (List ℕ) → ℕ → Type 0
HoldsFrom first (Stage.Heads entries some) start heads bytes left = (entries ≡ start) × (some ≡ heads) × (bytes ≡ []) × (left ≡ 0)
HoldsFrom first (Stage.Between read) start heads bytes left = HasRecovered start first heads bytes left read
HoldsFrom first (Stage.Within s) start heads bytes left = (before : List (List ℕ)) × (came : List ℕ) × (bytes ≡ before ++ came ∷ [])
    × IsWithin start first heads before left came s
HoldsFrom first (Stage.Found entries) start heads bytes left =
    (found : Found) × IsFound start first heads bytes left found × (entries ≡ found.store)
HoldsFrom first other start heads bytes left = ⊥

abbrev pub Holds : Reading → Entries → List Head → List (List ℕ) → ℕ → Type 0
Holds read start heads bytes left = HoldsFrom read.first read.stage start heads bytes left

-- the number of the segment whose bytes are next
abbrev pub next_number : List Head → ℕ → Option ℕ
next_number heads opened = option_map (λ h. h.segment) (slice_get heads opened)

-- where a segment comes: its bytes are of the one that comes, it is the next, it has no head, or another comes first
abbrev pub GoesOn : ℕ → Recovered → Way → Type 0
GoesOn segment read (Way.On s) = (next_number read.heads read.opened ≡ Some segment)
    × ((start : Entries) (first : ℕ) (heads : List Head) (bytes : List (List ℕ)) (left : ℕ) → HasRecovered start first heads bytes left read
    → IsWithin start first heads bytes left [] s)
GoesOn segment read (Way.Past same) = (same ≡ read) × IfSome (next_number read.heads read.opened) (λ next. segment < next)
GoesOn segment read (Way.Not stage) = stage ≡ Stage.Between read

abbrev pub GoesTo : ℕ → ℕ → Stage → Way → Type 0
GoesTo last segment stage (Way.On s) = ((segment ≡ last) × (stage ≡ Stage.Within s))
    ⊎ ((last < segment) × ((read : Recovered) × (stage ≡ Stage.Between read) × GoesOn segment read (Way.On s)))
GoesTo last segment stage (Way.Past read) = (last < segment) × (stage ≡ Stage.Between read)
    × IfSome (next_number read.heads read.opened) (λ next. segment < next)
GoesTo last segment stage (Way.Not same) = same ≡ stage

-- ---- segments without a head

-- how many zeros end what came of this segment
abbrev pub zeros_of : Reading → ℕ → ℕ
zeros_of read segment = if read.left == segment then read.zeros else 0

-- how many bytes more count for nothing with a piece behind so many zeros, up to the last that is not 0, and how many zeros end it
abbrev pub left_by : ℕ → List ℕ → ℕ
left_by zeros piece = if used piece == 0 then 0 else capped (zeros + used piece)

abbrev pub zeros_by : ℕ → List ℕ → ℕ
zeros_by zeros piece = if used piece == 0 then capped (zeros + length piece) else length piece - used piece

-- What stands in a segment without a head counts for nothing, where no other has a head behind it; else that closed it.
abbrev pub Lets : Option ℕ → ℕ → List ℕ → Recovered → Recovered → Reading → Reading → Type 0
Lets (Some next) segment piece before after old new = (after ≡ before) × (new ≡ old)
Lets None segment piece before after old new =
    let zeros = zeros_of old segment in
    ((start : Entries) (first : ℕ) (heads : List Head) (bytes : List (List ℕ)) (left : ℕ) → HasRecovered start first heads bytes left before
    → HasRecovered start first heads bytes (left + left_by zeros piece) after)
    × (new ≡ record old { left = segment; zeros = zeros_by zeros piece })

-- so many bytes more count for nothing then, and this is known of the segment
abbrev pub Leaves : Option ℕ → ℕ → List ℕ → ℕ → ℕ → Reading → Reading → Type 0
Leaves (Some next) segment piece left more old new = (more ≡ left) × (new.left ≡ old.left) × (new.zeros ≡ old.zeros)
Leaves None segment piece left more old new =
    let zeros = zeros_of old segment in
    (more ≡ left + left_by zeros piece) × (new.left ≡ segment) × (new.zeros ≡ zeros_by zeros piece)

-- A piece of a segment with a head came: it is the last then.
abbrev pub Joins : ℕ → ℕ → ℕ → Reading → Reading → Type 0
Joins segment left more old new = (more ≡ left) × (new.segment ≡ segment) × (new.left ≡ old.left) × (new.zeros ≡ old.zeros)

-- A piece is of the segment that comes; or of the next; or of one that has no head.
abbrev pub Comes : ℕ → List ℕ → Reading → Reading → List Head → List (List ℕ) → ℕ → List (List ℕ) → ℕ → Type 0
Comes segment piece old new heads bytes left more more_left =
    ((segment ≡ old.segment) × ((before : List (List ℕ)) × (came : List ℕ) × (bytes ≡ before ++ came ∷ [])
    × (more ≡ before ++ (came ++ piece) ∷ [])) × Joins segment left more_left old new)
    ⊎ ((old.segment < segment) × (next_number heads (length bytes) ≡ Some segment) × (more ≡ bytes ++ piece ∷ [])
    × Joins segment left more_left old new)
    ⊎ ((old.segment < segment) × IfSome (next_number heads (length bytes)) (λ next. segment < next) × (more ≡ bytes)
    × (new.segment ≡ old.segment) × Leaves (next_number heads (length bytes)) segment piece left more_left old new)

-- A piece of a segment came; or it is not its turn; or, without memory, all begins anew.
abbrev pub TakesAt : ℕ → List ℕ → Told → Reading → Reading → Type 0
TakesAt segment piece told old new =
    ((told ≡ just DONE 0) × (new.last ≡ old.last) × ((start : Entries) (heads : List Head) (bytes : List (List ℕ)) (left : ℕ)
    → Holds old start heads bytes left
    → (more : List (List ℕ)) × (more_left : ℕ) × Comes segment piece old new heads bytes left more more_left × Holds new start heads more more_left))
    ⊎ ((told ≡ order_refused) × (new.last ≡ old.last)
    × ((start : Entries) (heads : List Head) (bytes : List (List ℕ)) (left : ℕ) → Holds old start heads bytes left
    → Holds new start heads bytes left))
    ⊎ ((told ≡ just MEMORY 0) × (new ≡ anew old.first))

-- The number 0 is that of a snapshot.
abbrev pub TakesPiece : ℕ → List ℕ → Told → Reading → Reading → Type 0
TakesPiece segment piece told old new = ((segment ≡ 0) × TakesStartAt old.stage piece told old new)
    ⊎ ((0 < segment) × BeginsThen (TakesAt segment piece) (Unit {0}) told old new)

-- ---- the end

abbrev pub counts_of : Found → ReadCounts
counts_of found = record {
  frames = found.frames;
  commands = found.works;
  keys = length found.store;
  next = found.number;
  segment = found.segment;
  place = found.offset;
  dropped = found.dropped;
  damaged = if is_some found.damage then 1 else 0;
}

-- What came has just this in it; whether it is damaged is said where so many bytes may have been in flight, and the frames up to one are known
-- as synced.
abbrev pub Finds : ℕ → ℕ → Reading → Found → Type 0
Finds in_flight known old found = (found.is_damaged ≡ is_damaged in_flight known found)
    × ((start : Entries) (heads : List Head) (bytes : List (List ℕ)) (left : ℕ) → Holds old start heads bytes left
    → IsFound start old.first heads bytes left found)

abbrev pub found_at : ℕ → Found → Reading → Reading
found_at last found read = record read { stage = Stage.Found found.store; last = last; next = found.number }

-- What was found is told and kept; or it is damaged, and is told and not kept; without memory it is not told either.
abbrev pub Keeps : Found → ℕ → ReadCounts → ReadCounts → Told → Reading → Reading → Type 0
Keeps found last counts counted told old new =
    ((counted ≡ counts_of found)
    × (((found.is_damaged ≡ false) × (told ≡ just DONE 0) × (new ≡ found_at last found old))
    ⊎ ((found.is_damaged ≡ true) × (told ≡ just REFUSED 15) × (new ≡ old))))
    ⊎ ((told ≡ just MEMORY 0) × (new ≡ old) × (counted ≡ counts))

-- What was found is kept; or it is damaged, or there is no memory, and all begins anew; or all was read before.
abbrev pub EndsAt : ℕ → ℕ → ReadCounts → ReadCounts → Told → Reading → Reading → Type 0
EndsAt in_flight known counts counted told old new =
    ((found : Found) × Finds in_flight known old found × Keeps found old.last counts counted told (anew old.first) new)
    ⊎ ((told ≡ just MEMORY 0) × (new ≡ anew old.first) × (counted ≡ counts))
    ⊎ ((told ≡ order_refused) × (new.last ≡ old.last) × (counted ≡ counts)
    × ((start : Entries) (heads : List Head) (bytes : List (List ℕ)) (left : ℕ) → Holds old start heads bytes left
    → Holds new start heads bytes left))

-- Where what came is no snapshot nothing is counted.
abbrev pub EndsWith : ℕ → ℕ → ReadCounts → ReadCounts → Told → Reading → Reading → Type 0
EndsWith in_flight known counts counted = BeginsThen (EndsAt in_flight known counts counted) (counted ≡ counts)

-- ---- pieces of a snapshot

-- no frame is longer than this
abbrev pub frame_room : ℕ → ℕ
frame_room room = min room (2 ^ 28 - 1)

-- so many bytes of entries have room, and so has this entry; or it has none
abbrev pub MostIs : List ℕ × List ℕ → ℕ → Option ℕ → Type 0
MostIs entry room (Some most) = (88 + length entry.0 + length entry.1 ≤ frame_room room) × (most ≡ frame_room room - 24)
MostIs entry room None = frame_room room < 88 + length entry.0 + length entry.1

-- This entry is next, before these.
pub record Begin (entry : List ℕ × List ℕ) (entries : Entries) : Type 0 where
  pub rest : Entries
  pub are : entries ≡ entry ∷ rest

-- how many bytes of entries have room with the next entry, or that it has none; or no entry is left
abbrev pub NextIs : Entries → ℕ → Result ℕ NoPiece → Type 0
NextIs entries room (Ok most) = (entry : List ℕ × List ℕ) × Begin entry entries × MostIs entry room (Some most)
NextIs entries room (Err NoPiece.Short) = (entry : List ℕ × List ℕ) × Begin entry entries × MostIs entry room None
NextIs entries room (Err NoPiece.Done) = entries ≡ []

-- what is told where no piece is made
abbrev pub no_piece : NoPiece → Told
no_piece NoPiece.Done = just ABSENT 0
no_piece NoPiece.Short = just REFUSED 9

-- The next entries, as many as have room, are set by a frame of segment 0 with this number, which stands in the room, and the others are left.
pub record IsGiven (number most len : ℕ) (entries left : Entries) (room filled : List ℕ) : Type 0 where
  pub payload : List ℕ
  pub piece : IsPiece most entries payload left
  pub len_is : len ≡ 24 + length payload
  pub fits : len ≤ length room
  pub written : filled ≡ frame 0 number payload ++ drop len room

-- The next piece of a snapshot is shown; or there is no number for it, or no memory, and nothing has changed.
abbrev pub GivesBy : Result ℕ NoPiece → Entries → List ℕ → List ℕ → Told → Reading → Reading → Type 0
GivesBy (Err why) entries room filled told old new = (told ≡ no_piece why) × (new ≡ old) × (filled ≡ room)
GivesBy (Ok most) entries room filled told old new =
    ((2 ^ 56 ≤ old.pieces) × (told ≡ just REFUSED 8) × (new ≡ old) × (filled ≡ room))
    ⊎ ((told ≡ just MEMORY 0) × (new ≡ old) × (filled ≡ room))
    ⊎ ((len : ℕ) × (left : Entries) × IsGiven old.pieces most len entries left room filled × (told ≡ record (just SHOWN 0) { bytes = len })
    × (new ≡ record old { stage = Stage.Found left; pieces = old.pieces + 1 }))

abbrev pub GivesAt : Stage → List ℕ → List ℕ → Told → Reading → Reading → Type 0
GivesAt (Stage.Found entries) room filled told old new =
    (did : Result ℕ NoPiece) × NextIs entries (length room) did × GivesBy did entries room filled told old new
GivesAt other room filled told old new = (told ≡ order_refused) × (new ≡ old) × (filled ≡ room)

abbrev pub GivesPiece : List ℕ → List ℕ → Told → Reading → Reading → Type 0
GivesPiece room filled told old new = GivesAt old.stage room filled told old new

-- ---- of what a handle holds

-- where nothing is held, a reading that begins is held then, or there is no memory
abbrev pub ReadingOpens : ℕ → Told → Option Reading → Option Reading → Type 0
ReadingOpens first told (Some old) new = (told ≡ just HELD 0) × (new ≡ Some old)
ReadingOpens first told None (Some read) = (told ≡ opened) × (read ≡ anew first)
ReadingOpens first told None None = told ≡ just MEMORY 0
