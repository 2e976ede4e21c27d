-- What the engine has of a store, for ever, and what a later leadership begins with.
use Rattle.std.specs.Prelude.{◌≡◌, ◌≢◌, ◌+◌, ◌<◌, ◌≤◌, ℕ, true, false, List, [], ◌∷◌, ◌++◌, length, map, Some, None, slice_get}
use Rattle.sk_led.specs.Base.{Contains, has, payload, RecordView, Logged, Channel, channel_at, Answer, Work, log_text}
use Rattle.sk_led.specs.Base.{Entries, SayAll, after_works, entries_after, Asked, Entry, Runs, Limits, Next, Call}
use Rattle.sk_led.specs.Base.{Decides, entries, past, stands, stands_on, Command, HasDone, IsGone, IsLogged}
use Rattle.sk_led.specs.Base.{IsRecovered, HasNoneReady, first_answer, has_refusals, StoreView, new_world, owner_of}
use Rattle.sk_led.specs.Base.{whole, Happens, Move, Reads, Moves, World}
use Rattle.sk_led.specs.Led.{IsLed}

-- When the batch was told as logged, all that it logs stood under one number of the engine, sent by this leadership. It stands there
-- for ever, in the log or in the snapshot, and whoever reads the log later finds it.
pub record IsInEngine (payload_in : List ℕ → List ℕ) (w : World) (leadership : ℕ) (cs : List Call) (batch : ℕ) : Type 0 where
  pub number : ℕ
  pub value : List ℕ
  pub here : whole w number ≡ Some value
  pub own : owner_of value ≡ leadership
  pub stays : (after : List Move) (m : World) → Moves w after m → whole m number ≡ Some value
  pub found : (after : List Move) (m n : World) (other gap : ℕ) → Moves w after m → Happens m (Reads other gap) n → number < gap
  pub before : List Call
  pub later : List Call
  pub at : cs ≡ before ++ Decides (Logged batch) ∷ later
  pub has_all : (asked : Asked) → Contains (entries (stands before)) (Runs asked) → asked.batch ≡ Some batch
      → (records : List RecordView) × (payload_in value ≡ payload records) × Contains (map (λ x. x.bytes) records) (log_text asked.work)

abbrev pub LoggedIsInEngine : Type 0
LoggedIsInEngine = (payload_in : List ℕ → List ℕ) (moves : List Move) (w : World) (leadership gap : ℕ) (limits : Limits) (next : Next)
    (start : Entries) (cs : List Call) (s : StoreView) → Moves new_world moves w → HasDone limits next start cs s
    → IsLed payload_in w leadership gap next cs → (batch : ℕ) → IsLogged cs batch → IsInEngine payload_in w leadership cs batch

-- A reply that went out depends on such batches alone: each of them stands in the engine for ever.
abbrev pub RepliesRestOnEngine : Type 0
RepliesRestOnEngine = (payload_in : List ℕ → List ℕ) (moves : List Move) (w : World) (leadership gap : ℕ) (limits : Limits) (next : Next)
    (start : Entries) (cs : List Call) (s : StoreView) → Moves new_world moves w → HasDone limits next start cs s
    → IsLed payload_in w leadership gap next cs → (t : ℕ) (channel : Channel) → channel_at s.channels t ≡ Some channel
    → (r : Command) (ticket batch : ℕ) (answer : Answer) → Contains (stands_on t cs) r → r.said ≡ Some (t, (ticket, answer))
    → ticket ≤ length (past t cs).told → has batch r.rests ≡ true → IsInEngine payload_in w leadership cs batch

-- These stand under the numbers from this one on, sent by this leadership.
abbrev pub AreOf : World → ℕ → ℕ → List (List ℕ) → Type 0
AreOf w leadership number [] = Unit {0}
AreOf w leadership number (v ∷ vs) = (whole w number ≡ Some v) × (owner_of v ≡ leadership) × AreOf w leadership (number + 1) vs

-- The store of one leadership: what it did, and what is found of it in the engine, with the works that this says.
pub record Reign : Type 0 where
  pub leadership : ℕ
  pub gap : ℕ
  pub limits : Limits
  pub next : Next
  pub calls : List Call
  pub store : StoreView
  pub values : List (List ℕ)
  pub works : List Work

-- A leadership that began with these entries, and had its log in the engine.
pub record IsReign (payload_in : List ℕ → List ℕ) (w : World) (start : Entries) (r : Reign) : Type 0 where
  pub done : HasDone r.limits r.next start r.calls r.store
  pub led : IsLed payload_in w r.leadership r.gap r.next r.calls
  pub found : AreOf w r.leadership r.next.frame r.values
  pub ends : (u : List ℕ) → whole w (r.next.frame + length r.values) ≡ Some u → owner_of u ≢ r.leadership
  pub says : SayAll (map payload_in r.values) r.works

-- What is found of a leadership's frames, as far as they go, says works that leave what the first of its logged commands leave of the
-- store that it began with, with all that a batch logs which was told as logged.
abbrev pub LeadersGoOn : Type 0
LeadersGoOn = (payload_in : List ℕ → List ℕ) (moves : List Move) (w : World) (start : Entries) (r : Reign) → Moves new_world moves w
    → IsReign payload_in w start r → IsRecovered start r.calls r.store (after_works r.works start)

-- Just some of these commands, one after another, leave this.
pub record AreLeft (start : Entries) (those : List Entry) (left : Entries) : Type 0 where
  pub order : List Entry
  pub left_is : left ≡ entries_after order start
  pub among : (entry : Entry) → Contains order entry → Contains those entry

-- Where a ticket was told that nothing was done, no command with it stands; and what is found of the leadership's frames is what commands
-- leave that stand.
abbrev pub RefusedIsNowhere : Type 0
RefusedIsNowhere = (payload_in : List ℕ → List ℕ) (moves : List Move) (w : World) (start : Entries) (r : Reign) → Moves new_world moves w
    → IsReign payload_in w start r → (t k : ℕ) (channel : Channel) → channel_at r.store.channels t ≡ Some channel
    → slice_get (past t r.calls).told k ≡ Some None
    → IsGone t r.calls (k + 1) × AreLeft start (entries (stands r.calls)) (after_works r.works start)

-- Once no batch is undecided, and all was told that may be, each ticket that was given was told: so a store that is wound up keeps nobody
-- waiting.
abbrev pub NobodyWaits : Type 0
NobodyWaits = (limits : Limits) (next : Next) (start : Entries) (cs : List Call) (s : StoreView) → HasDone limits next start cs s
    → s.batched.kernel.parts.opens ≡ [] → (t : ℕ) (channel : Channel) → channel_at s.channels t ≡ Some channel → HasNoneReady t s
    → has_refusals (Some channel) (first_answer s t) ≡ false → length (past t cs).told ≡ length (past t cs).asked
