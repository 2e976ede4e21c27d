-- What a channel asked for of the bytes that came.
use Rattle.std.specs.Prelude.{◌≡◌, ℕ, ◌+◌, ◌-◌, ◌*◌, min, ◌<◌, ◌≤◌, ◌^◌, ◌&&◌, Bool, true, false, is_some, nat_lt, List, [], ◌∷◌, ◌++◌, length, take, slice_get, Option, Some, None, IfSome, if◌then◌else◌, Result, Ok, Err}
use Rattle.sk_channels.specs.Base.{Fault, Limits, Found, HasFault, words_of, HasRead, Splits, Queue, Refusal, NoTicket}
use Rattle.sk_channels.specs.Base.{Full, Memory, Ask, Reject, Asked, Fed, Inlet, Rejection}
use Rattle.sk_channels.specs.Asking.{is_for_host, Requests, with_words, Asks, AskInTurn}

-- with the request that the host is asked, if it is
abbrev pub with_posed : Requests → Option (List (List ℕ)) → Requests
with_posed told None = told
with_posed told (Some words) = told ++ Some words ∷ []

-- The stream is requests for which this was asked (those without words ask for nothing), and the one that the host is asked, if it is;
-- and then no request that is whole.
pub record IsOpen (limits : Limits) (asked : List Ask) (stream : List ℕ) (inlet : Inlet) : Type 0 where
  pub told : Requests
  pub read : HasRead limits (with_posed told inlet.posed) stream inlet.reader
  pub asks : AskInTurn None (with_words told) asked inlet.session.queue
  pub hosts : IfSome inlet.posed (λ words. is_for_host inlet.session.queue words ≡ true)

-- The stream is requests for which this was asked, then bytes with a fault, for which it is rejected, and whatever follows.
pub record IsClosed (limits : Limits) (asked : List Ask) (stream : List ℕ) : Type 0 where
  pub told : Requests
  pub before : List Ask
  pub fault : Fault
  pub faulty : List ℕ
  pub behind : List ℕ
  pub queue : Option Queue
  pub splits : Splits limits told (faulty ++ behind) stream
  pub has : HasFault limits fault faulty
  pub asks : AskInTurn None (with_words told) before queue
  pub rejects : asked ≡ before ++ Reject (Rejection.Fault fault) ∷ []

abbrev pub IsHeard : Bool → Limits → List Ask → List ℕ → Inlet → Type 0
IsHeard false limits asked stream inlet = IsOpen limits asked stream inlet
IsHeard true limits asked stream inlet = IsClosed limits asked stream × (inlet.posed ≡ None)

-- The stream came, and this was asked for, in this order, each with its ticket: 1, 2 and so on.
pub record HasHeard (limits : Limits) (asked : List Ask) (stream : List ℕ) (inlet : Inlet) : Type 0 where
  pub heard : IsHeard inlet.closed limits asked stream inlet
  pub tickets : inlet.next ≡ length asked + 1

-- What holds of what was asked for and of the stream holds with what is asked for now.
abbrev pub HoldsWith : (List Ask → List ℕ → Type 0) → List Ask → List ℕ → Option Asked → Type 0
HoldsWith Holds asked stream None = Holds asked stream
HoldsWith Holds asked stream (Some one) = Holds (asked ++ one.ask ∷ []) stream × (one.ticket ≡ length asked + 1)

-- whether only the host is asked
abbrev pub only_posed : Option Asked → Inlet → Bool
only_posed None inlet = is_some inlet.posed
only_posed (Some one) inlet = false

-- What a call with these bytes leaves and answers: so many came, at least one where not only the host is asked, and they end a request
-- or none. After a refusal no more came.
abbrev pub Feeds : (List Ask → List ℕ → Type 0) → List Ask → List ℕ → List ℕ → Result Fed Refusal → Inlet → Type 0
Feeds Holds asked stream bytes (Ok fed) inlet = (fed.count ≤ length bytes) × (0 < length bytes → only_posed fed.asked inlet ≡ false → 0 < fed.count)
    × HoldsWith Holds asked (stream ++ take fed.count bytes) fed.asked
Feeds Holds asked stream bytes (Err NoTicket) inlet = Holds asked stream × (length asked + 1 ≡ 2 ^ 64 - 1)
Feeds Holds asked stream bytes (Err Full) inlet = ⊥
Feeds Holds asked stream bytes (Err Memory) inlet = Holds asked stream

-- A request asks for something, which gets the next ticket.
pub record IsGiven (old : Inlet) (told : Option (List (List ℕ))) (asked : Option Asked) (new : Inlet) : Type 0 where
  pub ask : Ask
  pub given : asked ≡ Some (record { ticket = old.next; ask = ask })
  pub asks : Asks old.session.queue told ask new.session.queue
  pub reader : new.reader ≡ old.reader
  pub posed : new.posed ≡ old.posed
  pub next : new.next ≡ old.next + 1
  pub closed : new.closed ≡ old.closed

-- The host is asked, if the request is its to answer.
abbrev pub IsAsked : Bool → Inlet → List (List ℕ) → Option Asked → Inlet → Type 0
IsAsked true old words asked new = (asked ≡ None) × (new ≡ record old { posed = Some words })
IsAsked false old words asked new = IsGiven old (Some words) asked new

-- Words ask for something, if there are any.
abbrev pub WordsAsk : Inlet → List (List ℕ) → Option Asked → Inlet → Type 0
WordsAsk old [] asked new = (asked ≡ None) × (new ≡ old)
WordsAsk old (word ∷ words) asked new = IsAsked (is_for_host old.session.queue (word ∷ words)) old (word ∷ words) asked new

-- What was found asks for something, if it is a request.
abbrev pub Finds : Inlet → Found → Option Asked → Inlet → Type 0
Finds old Found.Part asked new = (asked ≡ None) × (new ≡ old)
Finds old (Found.Request words) asked new = WordsAsk old (words_of words.items) asked new
Finds old Found.TooLarge asked new = IsGiven old None asked new

-- ---- the request that the host is asked

-- one of its words
abbrev pub word_at : ℕ → Option (List (List ℕ)) → Option (List ℕ)
word_at place None = None
word_at place (Some words) = slice_get words place

-- its ticket, which is the next
abbrev pub posed_ticket : Inlet → Option ℕ
posed_ticket inlet = if is_some inlet.posed && nat_lt inlet.next (2 ^ 64 - 1) then Some inlet.next else None

-- how many bytes the commands may take that wait for EXEC: four times those that a request may have
abbrev pub most_queued : Limits → ℕ
most_queued limits = min (limits.bytes * 4) (2 ^ 64 - 1)
