-- What the calls of a desk whose server is elsewhere do, and what they are told.
use Rattle.std.specs.Prelude.{◌≡◌, ◌⊎◌, ◌==◌, ℕ, Bool, true, false, nat_le, List, [], ◌∷◌, length, Option, Some, None, Result, Ok, Err, option_and_then, if◌then◌else◌}
use Rattle.sk_handles.specs.Base.{slice_get, refusal_number, Refusal, TraceView, TerminalMap, released_at}
use Rattle.sk_handles.specs.Base.{KernelView, EpochRefusal, Reply, Request, expected, first_taken, opened, pending}
use Rattle.sk_handles.specs.Base.{sent, DeskEpochPost, ReplyPost, TurnPost, Given, ReplyRefusal, OutOfTurn, WrongKind}
use Rattle.sk_handles.specs.Base.{Memory, Turn, PendingRequest, declared_kernel, Declared}
use Rattle.sk_handles.specs.Base.{ScenarioView, SectionView, World, request_bytes, Client}
use Rattle.sk_handles.specs.Base.{DONE, FAULT, IDLE, MEMORY, REFUSED, SHOWN, Told}
use Rattle.sk_handles.specs.Told.{just, put, texted, told_by, told_of_given, told_of_turn}

-- ---- what a text declares: a desk over its kernel, where its section is a world without a line; its files are the server's

abbrev pub client_in : Declared → SectionView → Option Client
client_in d (World []) = Some (record { desk = opened (declared_kernel d); back = None; left = None })
client_in d other = None

abbrev pub desk_in : ScenarioView → Option Client
desk_in s = client_in s.declarations s.section

-- ---- a turn

abbrev pub turn_told : Result Turn Refusal → Told
turn_told (Ok turn) = told_of_turn turn
turn_told (Err Refusal.Memory) = just MEMORY 0
turn_told (Err why) = just REFUSED (refusal_number why)

abbrev pub TakesTurn : ℕ → Told → Client → Client → Type 0
TakesTurn pid told old new =
    (did : Result Turn Refusal) × (told ≡ turn_told did) × TurnPost did old.desk pid new.desk × (new ≡ record old { desk = new.desk })

-- ---- requests that go out

abbrev pub taken_from : Client → List PendingRequest → Client
taken_from c [] = c
taken_from c (q ∷ qs) = record c { desk = first_taken c.desk (q ∷ qs); back = Some (sent q) }

-- the oldest request that waits is taken, unless one was not shown whole, which comes first
abbrev pub taken : Client → Option Request → Client
taken c (Some q) = c
taken c None = taken_from c c.desk.waiting

-- the request that was shown is gone where the room has all of it; else it is shown again
abbrev pub shown_of : Request → List ℕ → Client → Client
shown_of q room c = if nat_le (length (request_bytes q)) (length room) then record c { back = None } else c

-- the number of the request and how many bytes it has are told; without memory it is shown later
abbrev pub ShowsRequest : Option Request → Told → Client → Client → List ℕ → List ℕ → Type 0
ShowsRequest None told c new room_old room_new = (told ≡ just IDLE 0) × (new ≡ c) × (room_new ≡ room_old)
ShowsRequest (Some q) told c new room_old room_new =
    ((told ≡ texted (just SHOWN q.number) (request_bytes q)) × (new ≡ shown_of q room_old c) × (room_new ≡ put (request_bytes q) room_old))
    ⊎ ((told ≡ just MEMORY 0) × (new ≡ c) × (room_new ≡ room_old))

abbrev pub SendsRequest : List ℕ → List ℕ → Told → Client → Client → Type 0
SendsRequest room_old room_new told old new = let now = taken old old.back in ShowsRequest now.back told now new room_old room_new

-- ---- replies that come

abbrev pub back_told : ReplyRefusal → Told
back_told (OutOfTurn expected) = just REFUSED 1
back_told WrongKind = just REFUSED 2
back_told Memory = just MEMORY 0

abbrev pub is_unsent : ℕ → Option Request → Bool
is_unsent number None = false
is_unsent number (Some q) = q.number == number

abbrev pub GivesReply : Reply → Told → Client → Client → Type 0
GivesReply r told old new =
    (did : Result Given (Reply × ReplyRefusal)) × (told ≡ told_by told_of_given (λ back. back_told back.1) did) × ReplyPost did old.desk r new.desk × (new ≡ record old { desk = new.desk })

-- a reply to a request that was not shown whole is out of turn
abbrev pub GivesTo : Bool → Reply → Told → Client → Client → Type 0
GivesTo true r told old new = (told ≡ just REFUSED 1) × (new ≡ old)
GivesTo false r told old new = GivesReply r told old new

-- bytes that are no reply change nothing
abbrev pub Gives : Option Reply → Told → Client → Client → Type 0
Gives None told old new = (told ≡ just FAULT 0) × (new ≡ old)
Gives (Some r) told old new = GivesTo (is_unsent r.number old.back) r told old new

-- the request whose reply is next, and how many have none
abbrev pub TellsPending : Told → Client → Type 0
TellsPending told c = told ≡ record { answer = SHOWN; number = expected c.desk (pending c.desk); bytes = length (pending c.desk) }

-- ---- epochs

abbrev pub epoch_refused : EpochRefusal → Told
epoch_refused (EpochRefusal.Undecided n) = just REFUSED 1
epoch_refused EpochRefusal.Memory = just MEMORY 0

-- what terminals have released is kept, in the place of what was
abbrev pub with_left : Result (TraceView × TerminalMap) EpochRefusal → Client → Client
with_left (Ok left) c = record c { left = Some left.1 }
with_left (Err why) c = c

abbrev pub BeginsEpoch : Told → Client → Client → Type 0
BeginsEpoch told old new =
    (did : Result (TraceView × TerminalMap) EpochRefusal) × (told ≡ told_by (λ _. just DONE 0) epoch_refused did) × DeskEpochPost did old.desk new.desk
    × (new ≡ with_left did (record old { desk = new.desk }))

-- the text at a place among those that a terminal had released when the last epoch ended
abbrev pub left_text : ℕ → ℕ → Client → Option (List ℕ)
left_text number place c = option_and_then (λ texts. slice_get (released_at texts number) place) c.left

-- the kernel of the desk, of which calls ask
abbrev pub desk_kernel : Client → KernelView
desk_kernel c = c.desk.kernel
