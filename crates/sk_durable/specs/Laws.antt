-- The theorem: what goes out, what is there and what a crash leaves, after any calls.
use Rattle.std.specs.Prelude.{◌≡◌, ◌⊎◌, ◌==◌, ◌+◌, ◌-◌, ◌<◌, ◌≤◌, ℕ, true, false, List, [], ◌∷◌, ◌++◌, flat_map, length, map, take, Option, Some, None, slice_get, if◌then◌else◌}
use Rattle.sk_durable.specs.Base.{Contains, has, payload, RecordView, Channel, Ask, channel_at, Answer, Work, log_text}
use Rattle.sk_durable.specs.Base.{answer_text, held, Entries, SayAll, after_works, entries_after, replies_to, Asked}
use Rattle.sk_durable.specs.Base.{Runs, Limits, Next}
use Rattle.sk_batched.specs.declared.batched.Outcome.TheVariants.{Logged}
use Rattle.sk_durable.specs.Asked.{error, long_key_words, work_of}
use Rattle.sk_durable.specs.Works.{has_now}
use Rattle.sk_durable.specs.Store.{first_answer, has_refusals, HasPast, IsNew, StoreView}
use Rattle.sk_durable.specs.Calls.{Call, Decides, Serves}
use Rattle.sk_durable.specs.History.{entries, frames, logged, past, stands, stands_on, synced, Command}
use Rattle.sk_durable.specs.Posts.{HasNoneReady}

-- a store in which nothing had happened, with these entries, did this
pub record HasDone (limits : Limits) (next : Next) (start : Entries) (cs : List Call) (s : StoreView) : Type 0 where
  pub first : StoreView
  pub new : IsNew limits next start first
  pub serves : Serves first cs s

-- ---- 1. All is as in a plain store that carries out the commands that stand, one after another.

-- what a command said, where it was to this channel
abbrev pub said_to : ℕ → Option (ℕ × (ℕ × Answer)) → List (ℕ × (ℕ × Answer))
said_to t None = []
said_to t (Some said) = if said.0 == t then said ∷ [] else []

-- what commands said to a channel, each with its ticket
abbrev pub said_by : ℕ → List Command → List (ℕ × (ℕ × Answer))
said_by t commands = flat_map (λ r. said_to t r.said) commands

-- Each key has just what it has there.
abbrev pub MapIsPlain : Type 0
MapIsPlain = (limits : Limits) (next : Next) (start : Entries) (cs : List Call) (s : StoreView) → HasDone limits next start cs s
    → (key : List ℕ) → has_now s.batched.kernel key ≡ held (entries_after (entries (stands cs)) start) key

-- The answers of the commands that stand are its answers, in their order.
abbrev pub AnswersArePlain : Type 0
AnswersArePlain = (limits : Limits) (next : Next) (start : Entries) (cs : List Call) (s : StoreView) → HasDone limits next start cs s
    → (t : ℕ) → said_by t (stands cs) ≡ replies_to t (entries (stands cs)) start

-- A ticket was told the answer of a command that stands.
abbrev pub IsAnswered : ℕ → List Call → ℕ → List ℕ → Type 0
IsAnswered t cs ticket text = (r : Command) × (answer : Answer) × Contains (stands_on t cs) r × (r.said ≡ Some (t, (ticket, answer))) × (text ≡ answer_text answer)

-- No command with this ticket stands.
abbrev pub IsGone : ℕ → List Call → ℕ → Type 0
IsGone t cs ticket = (r : Command) (answer : Answer) → Contains (stands_on t cs) r → r.said ≡ Some (t, (ticket, answer)) → ⊥

-- The command of a ticket is what was asked for, or the error that one of its keys is too long.
abbrev pub IsAskedFor : ℕ → List Call → ℕ → Work → Type 0
IsAskedFor t cs k work = (ask : Ask) × (slice_get (past t cs).asked k ≡ Some ask) × ((work ≡ work_of ask) ⊎ (work ≡ error long_key_words))

-- What a channel that is connected was told: of each ticket the answer of its command; or that nothing of it was done, and then it
-- doesn't stand.
pub record IsToldRight (t : ℕ) (cs : List Call) (channel : Channel) (limits : Limits) : Type 0 where
  pub has : HasPast limits.requests (past t cs) channel
  pub answered : (k : ℕ) (text : List ℕ) → slice_get (past t cs).told k ≡ Some (Some text) → IsAnswered t cs (k + 1) text
  pub refused : (k : ℕ) → slice_get (past t cs).told k ≡ Some None → IsGone t cs (k + 1)
  pub asked : (r : Command) (asked : Asked) → Contains (stands_on t cs) r → r.entry ≡ Runs asked
      → (k : ℕ) → asked.ticket ≡ k + 1 → IsAskedFor t cs k asked.work

abbrev pub TicketsAreToldRight : Type 0
TicketsAreToldRight = (limits : Limits) (next : Next) (start : Entries) (cs : List Call) (s : StoreView) → HasDone limits next start cs s
    → (t : ℕ) (channel : Channel) → channel_at s.channels t ≡ Some channel → IsToldRight t cs channel limits

-- ---- 2. A channel has let go of the longest front part of its replies whose commands depend on nothing undecided.

-- A batch was told as logged.
abbrev pub IsLogged : List Call → ℕ → Type 0
IsLogged cs batch = Contains cs (Decides (Logged batch))

-- A command that stands has this ticket, and depends on a batch that was not.
abbrev pub Waits : ℕ → List Call → ℕ → Type 0
Waits t cs ticket = (r : Command) × (answer : Answer) × (batch : ℕ) × Contains (stands_on t cs) r × (r.said ≡ Some (t, (ticket, answer)))
    × (has batch r.rests ≡ true) × (IsLogged cs batch → ⊥)

-- All batches that a command which was answered depends on were told as logged. Where all was told that may be, each ticket was
-- told, or the next waits.
pub record LetsGoJustWhatMay (t : ℕ) (cs : List Call) (channel : Channel) (s : StoreView) : Type 0 where
  pub out : (r : Command) (ticket batch : ℕ) (answer : Answer) → Contains (stands_on t cs) r → r.said ≡ Some (t, (ticket, answer))
      → ticket ≤ length (past t cs).told → has batch r.rests ≡ true → IsLogged cs batch
  pub held : HasNoneReady t s → has_refusals (Some channel) (first_answer s t) ≡ false
      → (length (past t cs).told ≡ length (past t cs).asked) ⊎ Waits t cs (length (past t cs).told + 1)

abbrev pub ChannelsLetGoJustWhatMay : Type 0
ChannelsLetGoJustWhatMay = (limits : Limits) (next : Next) (start : Entries) (cs : List Call) (s : StoreView) → HasDone limits next start cs s
    → (t : ℕ) (channel : Channel) → channel_at s.channels t ≡ Some channel → LetsGoJustWhatMay t cs channel s

-- ---- 3. What a batch logged that was told as logged lies in a frame that was told as synced, with all frames before it.

-- The frame has all that the batch logs.
abbrev pub HasAll : ℕ → List Call → ℕ → ℕ → Type 0
HasAll first cs frame batch = (asked : Asked) → Contains (entries (stands cs)) (Runs asked) → asked.batch ≡ Some batch
    → (records : List RecordView) × (slice_get (frames first cs) (frame - first) ≡ Some records)
    × Contains (map (λ x. x.bytes) records) (log_text asked.work)

-- When the batch was told as logged it lay in a frame, and that and all before it were told as synced.
pub record IsOnDisk (first : ℕ) (cs : List Call) (batch : ℕ) : Type 0 where
  pub before : List Call
  pub later : List Call
  pub at : cs ≡ before ++ Decides (Logged batch) ∷ later
  pub frame : ℕ
  pub from : first ≤ frame
  pub synced_are : (n : ℕ) → first ≤ n → n ≤ frame → has n (synced before) ≡ true
  pub has_all : HasAll first before frame batch

abbrev pub LoggedIsOnDisk : Type 0
LoggedIsOnDisk = (limits : Limits) (next : Next) (start : Entries) (cs : List Call) (s : StoreView) → HasDone limits next start cs s
    → (batch : ℕ) → IsLogged cs batch → IsOnDisk next.frame cs batch

-- ---- 4. Whatever a crash leaves, what is read is the plain store after the first of the logged commands.

-- So many frames from the first on were told as synced, and the next was not.
pub record AreSynced (first count : ℕ) (cs : List Call) : Type 0 where
  pub those : (i : ℕ) → i < count → has (first + i) (synced cs) ≡ true
  pub next : has (first + count) (synced cs) ≡ false

-- The first of the logged commands leave this, with all that a batch logs which was told as logged.
pub record IsRecovered (start : Entries) (cs : List Call) (s : StoreView) (entries_read : Entries) : Type 0 where
  pub count : ℕ
  pub map_is : entries_read ≡ entries_after (take count (logged cs s)) start
  pub settled : (asked : Asked) (batch : ℕ) → Contains (entries (stands cs)) (Runs asked) → asked.batch ≡ Some batch → IsLogged cs batch
      → Contains (take count (logged cs s)) (Runs asked)

-- A log that is read as the first frames, at least those that were told as synced, says works that leave this.
abbrev pub CrashesAreRecovered : Type 0
CrashesAreRecovered = (limits : Limits) (next : Next) (start : Entries) (cs : List Call) (s : StoreView) → HasDone limits next start cs s
    → (count n : ℕ) (works : List Work) → AreSynced next.frame count cs → count ≤ n
    → SayAll (take n (map payload (frames next.frame cs))) works → IsRecovered start cs s (after_works works start)
