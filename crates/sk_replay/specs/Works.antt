-- The works that a payload says.
use Rattle.std.specs.Prelude.{◌≡◌, ℕ, ◌≤◌, ◌^◌, true, List, [], ◌∷◌, ◌++◌, length, map, take, Option, Some, None, is_some, Result, Ok, Err}
use Rattle.std.specs.Global.{Vec}
use Rattle.sk_requests.specs.Faults.{HasFault}
use Rattle.sk_requests.specs.Stream.{EndsWithin, HasRead, Splits}
use Rattle.sk_requests.specs.declared.limits.Limits.{Limits}
use Rattle.sk_requests.specs.declared.fault.Refusal.{Refusal as ReaderRefusal}
use Rattle.sk_requests.specs.declared.fault.Refusal.TheVariants as reader
use Rattle.sk_commands.specs.Parsing.{order_of}
use Rattle.sk_commands.specs.Session.{turn}
use Rattle.sk_commands.specs.Requests.{work_for}
use Rattle.sk_commands.specs.declared.fault.Fault.{Fault}
use Rattle.sk_commands.specs.declared.reply.Reply.TheVariants.{Error}
use Rattle.sk_commands.specs.declared.session.Queue.{Queue}
use Rattle.sk_commands.specs.declared.work.Work.{Work}
use Rattle.sk_commands.specs.declared.work.Work.TheVariants.{Say}
use Rattle.sk_replay.specs.declared.channel.Channel.{Channel}
use Rattle.sk_replay.specs.declared.payload.Reading.{Reading}
use Rattle.sk_replay.specs.declared.refusal.Refusal.{Refusal}

-- how large a request of a log may be
abbrev pub log_limits : Limits
log_limits = record { words = 2 ^ 31; bytes = 2 ^ 62; line = 64 }

-- the queue that requests of one channel leave open, where this one is open before them
abbrev pub queue_after : Option Queue → List (List (List ℕ)) → Option Queue
queue_after queue [] = queue
queue_after queue (words ∷ requests) = queue_after (turn queue (order_of words)).queue requests

-- the fault that is replied, if one is
abbrev pub fault_in : Work → Option Fault
fault_in (Say (Error fault)) = Some fault
fault_in other = None

-- No fault is replied to any of these requests of one channel.
abbrev pub AreTaken : Option Queue → List (List (List ℕ)) → Type 0
AreTaken queue [] = Unit {0}
AreTaken queue (words ∷ requests) =
    let next = turn queue (order_of words) in (fault_in next.work ≡ None) × AreTaken next.queue requests

-- The payload is requests to which no fault is replied and which leave no queue open, and these works are carried out for them.
pub record Says (limits : Limits) (payload : List ℕ) (works : List Work) : Type 0 where
  pub requests : List (List (List ℕ))
  pub splits : Splits limits (map Some requests) [] payload
  pub taken : AreTaken None requests
  pub closed : queue_after None requests ≡ None
  pub works_are : works ≡ work_for None requests

-- Of so many bytes this is told, and perhaps a part of a request stands behind that.
abbrev pub IsToldOf : Limits → List (Option (List (List ℕ))) → ℕ → List ℕ → Type 0
IsToldOf limits told place payload = (place ≤ length payload) × ((rest : List ℕ) × Splits limits told rest (take place payload))

-- Why a payload is not read: what stands behind its first requests, to none of which a fault is replied.
abbrev pub IsRefused : Limits → List ℕ → Refusal → Type 0
IsRefused limits payload (Refusal.Request fault place) = (requests : List (List (List ℕ))) × AreTaken None requests
    × IsToldOf limits (map Some requests) place payload
    × ((rest : List ℕ) × Splits limits (map Some requests) rest payload × HasFault limits fault rest)
IsRefused limits payload (Refusal.TooLarge place) = (requests : List (List (List ℕ))) × AreTaken None requests
    × IsToldOf limits (map Some requests ++ None ∷ []) place payload
IsRefused limits payload (Refusal.Command fault place) = (requests : List (List (List ℕ))) × (words : List (List ℕ)) × AreTaken None requests
    × IsToldOf limits (map Some (requests ++ words ∷ [])) place payload
    × ((turn (queue_after None requests) (order_of words)).work ≡ Say (Error fault))
IsRefused limits payload Refusal.Cut = (requests : List (List (List ℕ))) × AreTaken None requests
    × EndsWithin limits (map Some requests) payload true
IsRefused limits payload Refusal.Open = (requests : List (List (List ℕ))) × AreTaken None requests
    × Splits limits (map Some requests) [] payload × (is_some (queue_after None requests) ≡ true)
IsRefused limits payload Refusal.Memory = Unit {0}

-- what a refusal of the reader is, behind so many bytes
abbrev pub refused_at : ℕ → ReaderRefusal → Refusal
refused_at place (reader.Fault fault) = Refusal.Request fault place
refused_at place reader.Memory = Refusal.Memory

-- What is answered of a payload.
abbrev pub IsRead : Limits → List ℕ → Result (Vec Work) Refusal → Type 0
IsRead limits payload (Ok works) = Says limits payload works.items
IsRead limits payload (Err refusal) = IsRefused limits payload refusal

-- Just these works are answered, if there is memory.
abbrev pub IsAgain : List Work → Result (Vec Work) Refusal → Type 0
IsAgain works (Ok answer) = answer.items ≡ works
IsAgain works (Err refusal) = refusal ≡ Refusal.Memory

-- These requests came on the channel, no fault was replied to them, and it has the queue that they leave and the works that are carried out.
pub record HasCarried (requests : List (List (List ℕ))) (channel : Channel) : Type 0 where
  pub taken : AreTaken None requests
  pub queue : channel.session.queue ≡ queue_after None requests
  pub works : channel.works.items ≡ work_for None requests

-- A fault is replied to a request that came behind these, and is told with this place; or there was no memory.
abbrev pub IsRefusedBehind : List (List (List ℕ)) → List (List ℕ) → ℕ → Refusal → Type 0
IsRefusedBehind requests words place (Refusal.Command fault behind) =
    (behind ≡ place) × ((turn (queue_after None requests) (order_of words)).work ≡ Say (Error fault))
IsRefusedBehind requests words place Refusal.Memory = Unit {0}
IsRefusedBehind requests words place other = ⊥

-- So many bytes of the payload were read, and the requests among them came on the channel.
pub record HasCome (payload : List ℕ) (reading : Reading) : Type 0 where
  pub requests : List (List (List ℕ))
  pub within : reading.place ≤ length payload
  pub read : HasRead log_limits (map Some requests) (take reading.place payload) reading.reader
  pub carried : HasCarried requests reading.channel
