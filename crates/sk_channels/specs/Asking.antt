-- What requests ask for, one after another, by the queue that is open.
use Rattle.std.specs.Prelude.{◌≡◌, ◌≢◌, ◌&&◌, ℕ, nat_le, Bool, true, false, not, is_none, is_some, List, [], ◌∷◌, Option, Some, None, option_map}
use Rattle.sk_channels.specs.Base.{AllByRecursion, Unknown, Error, Text, Queue, Say, name_of, order_of, turn, spoilt, weighed, Name, Session}
use Rattle.sk_channels.specs.Base.{Ask, Do, Reject, Rejection}

-- what came, one after another: the words of each request, or none where it is beyond the limits
abbrev pub Requests : Type 0
Requests = List (Option (List (List ℕ)))

-- A command was to be queued, and there was no memory or no room.
abbrev pub IsUnqueued : Option Queue → Option Queue → Type 0
IsUnqueued None new = ⊥
IsUnqueued (Some queue) new = new ≡ Some (spoilt queue)

-- What a request comes to where this queue is open, and which is open then: the work that its words say. Where there was no memory
-- or no room to queue a command, and where a request is beyond the limits, the queue is not to be carried out.
abbrev pub Asks : Option Queue → Option (List (List ℕ)) → Ask → Option Queue → Type 0
Asks old (Some words) (Do work) new = (work ≡ (turn old (order_of words)).work) × (new ≡ (turn old (order_of words)).queue)
Asks old (Some words) (Reject Rejection.Memory) new = IsUnqueued old new
Asks old (Some words) (Reject Rejection.QueueFull) new = IsUnqueued old new
Asks old None (Reject Rejection.TooLarge) new = new ≡ option_map spoilt old
Asks old told other new = ⊥

-- whether a request of these words is the host's to answer: no queue is open, and they name no command
abbrev pub is_for_host : Option Queue → List (List ℕ) → Bool
is_for_host queue [] = false
is_for_host queue (word ∷ words) = not (is_some queue) && is_none (name_of word)

abbrev pub is_hosts : Option Queue → Option (List (List ℕ)) → Bool
is_hosts queue None = false
is_hosts queue (Some words) = is_for_host queue words

-- Of the host's request it is what the host told, and no queue is open then; of each other what it asks for.
abbrev pub ComesTo : Bool → Option Queue → Option (List (List ℕ)) → Ask → Option Queue → Type 0
ComesTo true old told ask new = ((text : List ℕ) × (ask ≡ Do (Say (Text text)))) × (new ≡ old)
ComesTo false old told ask new = Asks old told ask new

-- the requests that have words; the others ask for nothing
abbrev pub with_words : Requests → Requests
with_words [] = []
with_words (Some [] ∷ told) = with_words told
with_words (one ∷ told) = one ∷ with_words told

-- Requests come to these, one after another, each with the queue that the one before it left.
abbrev pub AskInTurn : Option Queue → Requests → List Ask → Option Queue → Type 0
AskInTurn old [] [] new = new ≡ old
AskInTurn old (t ∷ told) (a ∷ asked) new = (next : Option Queue) × ComesTo (is_hosts old t) old t a next × AskInTurn next told asked new
AskInTurn old told asked new = ⊥

-- what requests ask for where there is memory and room to queue
abbrev pub asks_of : Option Queue → Requests → List Ask
asks_of queue [] = []
asks_of queue (Some words ∷ told) = Do (turn queue (order_of words)).work ∷ asks_of (turn queue (order_of words)).queue told
asks_of queue (None ∷ told) = Reject Rejection.TooLarge ∷ asks_of (option_map spoilt queue) told

-- what was asked for, where for what the host told it stands that no command has this name
abbrev pub untold : Ask → Ask
untold (Do (Say (Text text))) = Do (Say (Error Unknown))
untold other = other

-- There was memory and room to queue each command.
abbrev pub HadMemory : List Ask → Type 0
HadMemory asked = AllByRecursion (λ a. (a ≢ Reject Rejection.Memory) × (a ≢ Reject Rejection.QueueFull)) asked

-- whether words end a queue: alone EXEC, or DISCARD
abbrev pub ends_by : Option Name → Bool
ends_by (Some Name.Exec) = true
ends_by (Some Name.Discard) = true
ends_by other = false

abbrev pub ends_queue : List (List ℕ) → Bool
ends_queue (word ∷ []) = ends_by (name_of word)
ends_queue words = false

-- whether a queue is full: one is open, these words end none, and with them it takes more bytes than may
abbrev pub is_over : Session → List (List ℕ) → ℕ → Bool
is_over session words most = is_some session.queue && not (ends_queue words) && not (nat_le (weighed words session.bytes) most)
