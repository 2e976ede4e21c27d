-- The opening of a store behind a log that was read.
use Rattle.std.specs.Prelude.{◌≡◌, ◌⊎◌, ℕ, List, Option, Some, None}
use Rattle.sk_handles.specs.Base.{non_zero_u16_get, Entries, Limits, StoreView, IsAgainst, Reopens, Last, Reopened}
use Rattle.sk_handles.specs.Base.{CLOSED, HELD, MEMORY, REFUSED, Reading, Stage, NotOpened, Order, Refused}
use Rattle.sk_handles.specs.Base.{StoreLimits, FramePlace, Told}
use Rattle.sk_reopened.specs.declared.refusal.Refusal.TheVariants as refusals
use Rattle.sk_handles.specs.StoreCalls.{place_of}
use Rattle.sk_handles.specs.Told.{just, opened}

-- what is told where no store is opened
abbrev pub not_opened : NotOpened → Told
not_opened Order = just REFUSED 14
not_opened (Refused refusals.NoNumber) = just REFUSED 8
not_opened (Refused refusals.Short) = just REFUSED 9
not_opened (Refused refusals.Limits) = just REFUSED 12
not_opened (Refused refusals.Key) = just REFUSED 13
not_opened (Refused refusals.Memory) = just MEMORY 0

-- these limits were given
pub record AreGiven (given : StoreLimits) (limits : Limits) : Type 0 where
  pub words : limits.requests.words ≡ given.words
  pub bytes : limits.requests.bytes ≡ given.bytes
  pub line : limits.requests.line ≡ given.line
  pub waiting : limits.waiting ≡ given.waiting
  pub in_flight : non_zero_u16_get limits.in_flight ≡ given.in_flight
  pub undecided : limits.undecided ≡ given.undecided
  pub commands : limits.commands ≡ given.commands
  pub segment : limits.segment ≡ given.segment

-- these entries were found, and none of them was given as a snapshot
abbrev pub HasFound : Reading → Entries → Type 0
HasFound read entries = (read.stage ≡ Stage.Found entries) × (read.pieces ≡ 1)

abbrev pub last_of : Reading → Last
last_of read = record { frame = read.next; segment = read.last }

-- A new store with the entries that were found goes on behind the head of the next segment, which stands in the room, and its place is told.
abbrev pub OpensStore : StoreLimits → Reading → StoreView → List ℕ → List ℕ → FramePlace → Type 0
OpensStore given read store room filled place = (limits : Limits) × AreGiven given limits × (entries : Entries) × HasFound read entries
    × (opened : Reopened) × Reopens limits (last_of read) entries opened room filled × (store ≡ opened.store) × (place ≡ place_of opened.head)

-- why none is opened; only without memory the room may have the head
abbrev pub IsCause : NotOpened → StoreLimits → Reading → List ℕ → List ℕ → Type 0
IsCause Order given read room filled = ((entries : Entries) → HasFound read entries → ⊥) × (filled ≡ room)
IsCause (Refused refusals.Limits) given read room filled = ((given.in_flight ≡ 0)
    ⊎ ((limits : Limits) × AreGiven given limits × (entries : Entries) × HasFound read entries × IsAgainst refusals.Limits limits (last_of read) entries room))
    × (filled ≡ room)
IsCause (Refused refusals.Memory) given read room filled = Unit {0}
IsCause (Refused why) given read room filled = ((limits : Limits) × AreGiven given limits × (entries : Entries) × HasFound read entries
    × IsAgainst why limits (last_of read) entries room) × (filled ≡ room)

-- ---- of what the handles hold

-- What two handles hold, of a store and of a log that is read: a store is opened, and the log is held no more; or it is told why not, and both
-- hold what they held.
abbrev pub StoreOpens : StoreLimits → Told → Option StoreView → Option StoreView → Option Reading → Option Reading → List ℕ → List ℕ
    → FramePlace → FramePlace → Type 0
StoreOpens given told (Some held) store read read' room filled old new =
    (told ≡ just HELD 0) × (store ≡ Some held) × (read' ≡ read) × (filled ≡ room) × (new ≡ old)
StoreOpens given told None store None read' room filled old new =
    (told ≡ just CLOSED 0) × (store ≡ None) × (read' ≡ None) × (filled ≡ room) × (new ≡ old)
StoreOpens given told None (Some store) (Some read) read' room filled old new =
    (told ≡ opened) × (read' ≡ None) × OpensStore given read store room filled new
StoreOpens given told None None (Some read) read' room filled old new = (read' ≡ Some read)
    × ((why : NotOpened) × (told ≡ not_opened why) × IsCause why given read room filled × (new ≡ old))
