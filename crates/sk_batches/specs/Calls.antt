-- What the calls of a queue answer, and what they leave.
use Rattle.std.specs.Prelude.{◌≡◌, ◌||◌, ◌==◌, ◌+◌, ◌++◌, ◌∷◌, ℕ, Bool, true, false, nat_lt, nat_le, List, [], length, drop, Option, Some, None, if◌then◌else◌, Result, Ok, Err}
use Rattle.sk_batches.specs.Base.{list_any, Stage, Cut, Taken, Refusal, Stopped, Full, Nothing, Busy, NoNumber, Short}
use Rattle.sk_batches.specs.Base.{Unknown, NoCut, Memory, NUMBER_LIMIT}
use Rattle.sk_batches.specs.Records.{payload}
use Rattle.sk_batches.specs.Queue.{QueueView, is_failed, in_flight, undecided, next_records, after_take, is_awaited, after_word, cut_due, after_cut}

-- nothing has happened
abbrev pub new_queue : ℕ → ℕ → ℕ → QueueView
new_queue most most_bytes frame = record
    { most = most; most_bytes = most_bytes; number = 1; frame = frame; stopped = false; batches = []; records = [] }

-- the first cause against a call, or none
abbrev pub append_refused : QueueView → ℕ → Option Refusal
append_refused q len =
    if q.stopped then Some Stopped
    else if nat_lt q.most_bytes (undecided q + len) then Some Full
    else None

-- a frame failed, or as many are in flight as may be
abbrev pub is_busy : QueueView → Bool
is_busy q = list_any (λ b. is_failed b.stage) q.batches || nat_le q.most (in_flight q)

abbrev pub has_no_number : QueueView → Bool
has_no_number q = nat_le NUMBER_LIMIT q.number || nat_le NUMBER_LIMIT q.frame

abbrev pub take_refused : QueueView → ℕ → Option Refusal
take_refused q room =
    if q.stopped then Some Stopped
    else if length (next_records q) == 0 then Some Nothing
    else if is_busy q then Some Busy
    else if has_no_number q then Some NoNumber
    else if nat_lt room (length (payload (next_records q))) then Some Short
    else None

abbrev pub word_refused : QueueView → ℕ → Option Refusal
word_refused q frame =
    if q.stopped then Some Stopped
    else if is_awaited frame q then None
    else Some Unknown

-- the cause that a call answers first: want of memory only where there is no other
abbrev pub cause_of : Refusal → Option Refusal
cause_of Memory = None
cause_of why = Some why

-- a record more in the open batch, whose number is told; after a refusal nothing has changed
abbrev pub AppendPost : Result ℕ Refusal → List ℕ → List ℕ → QueueView → QueueView → Type 0
AppendPost (Ok number) rests bytes old new =
    (append_refused old (length bytes) ≡ None) × (number ≡ old.number)
    × (new ≡ record old { records = old.records ++ record { rests = rests; bytes = bytes } ∷ [] })
AppendPost (Err why) rests bytes old new = (append_refused old (length bytes) ≡ cause_of why) × (new ≡ old)

-- the bytes of the next frame are in the room, which is as it was behind them; after a refusal nothing has changed
abbrev pub TakePost : Result Taken Refusal → QueueView → List ℕ → QueueView → List ℕ → Type 0
TakePost (Ok taken) old room new filled =
    (take_refused old (length room) ≡ None) × (taken ≡ record { frame = old.frame; len = length (payload (next_records old)) })
    × (new ≡ after_take old) × (filled ≡ payload (next_records old) ++ drop (length (payload (next_records old))) room)
TakePost (Err why) old room new filled = (take_refused old (length room) ≡ cause_of why) × (new ≡ old) × (filled ≡ room)

-- a frame was told of; this wants no memory
abbrev pub WordPost : Stage → Result (Unit {0}) Refusal → ℕ → QueueView → QueueView → Type 0
WordPost stage (Ok _) frame old new = (word_refused old frame ≡ None) × (new ≡ after_word frame stage old)
WordPost stage (Err why) frame old new = (word_refused old frame ≡ Some why) × (new ≡ old)

-- the cut that is due was made, or could not be, and then the queue stops; this wants no memory
abbrev pub CutPost : Bool → Result (Unit {0}) Refusal → QueueView → QueueView → Type 0
CutPost true (Ok _) old new = (old.stopped ≡ false) × (c : Cut) × (cut_due old ≡ Some c) × (new ≡ after_cut c old)
CutPost false (Ok _) old new = (old.stopped ≡ false) × (c : Cut) × (cut_due old ≡ Some c) × (new ≡ record old { stopped = true })
CutPost made (Err Stopped) old new = (old.stopped ≡ true) × (new ≡ old)
CutPost made (Err NoCut) old new = (old.stopped ≡ false) × (cut_due old ≡ None) × (new ≡ old)
CutPost made (Err other) old new = ⊥
