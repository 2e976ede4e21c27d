-- What a store does, one thing after another.
use Rattle.std.specs.Prelude.{◌≡◌, ◌⊎◌, ◌+◌, ◌<◌, ◌≤◌, ℕ, true, false, List, [], ◌∷◌, length, Some, None, Ok}
use Rattle.sk_durable.specs.Base.{list_any, TakesOut, word_refused, next_segment, after_cut, after_word, cut_due}
use Rattle.sk_durable.specs.Base.{is_refused, next_records, RecordView, Stage, Synced, Failed, Sealed, Cut}
use Rattle.sk_durable.specs.Base.{is_full, Begins, DecidePost, NextPost, Stays, Outcome, Channel, Ask, channel_at}
use Rattle.sk_durable.specs.Base.{KeepsAll, Answer, Work, answer_text, Requests, names_reserved, Asked, NotDone}
use Rattle.sk_durable.specs.Base.{LongKey, Asker}
use Rattle.sk_channels.specs.Table as table
use Rattle.sk_durable.specs.Asked.{error, long_key_words, work_of}
use Rattle.sk_durable.specs.Works.{against, asked_by, Batches, CarriesOut, IsNotDone, IsTold, KnowsIfTold}
use Rattle.sk_durable.specs.Store.{asked_for, bound, came, first_answer, no_past, was_handed, was_refused, was_told, Becomes, Goes, HasPast, Past, StoreView}

-- Connects, HangsUp, Frees: a channel is connected, is gone, has its number free.
-- Hears, Carries, Declines: bytes came and ask for nothing; or for this, which is carried out, with this answer; or nothing of it is done.
-- Tells, Drops, Refuses, Hands: an answer is told to its ticket, or dropped; tickets before this one are told that nothing was done; bytes are
-- handed over.
-- Draws, Sends, Turns: the guess of the open batch is drawn; a frame of these records is taken; the log goes on in the next segment.
-- Learns, Cuts, Stops, Decides: what the host says of a frame and of a cut; what is decided. Rests: nothing is seen to change.
pub data Call : Type 0 where
  Connects : (channel : ℕ) → Call
  HangsUp : (channel : ℕ) → Call
  Frees : (channel : ℕ) → Call
  Hears : (channel : ℕ) → (bytes : List ℕ) → Call
  Carries : (channel : ℕ) → (bytes : List ℕ) → (ask : Ask) → (asked : Asked) → (answer : Answer) → (rests : List ℕ) → Call
  Declines : (channel : ℕ) → (bytes : List ℕ) → (ask : Ask) → (ticket : ℕ) → (why : NotDone) → Call
  Tells : (channel : ℕ) → (ticket : ℕ) → (answer : Answer) → Call
  Drops : (channel : ℕ) → (ticket : ℕ) → (answer : Answer) → Call
  Refuses : (channel : ℕ) → (ticket : ℕ) → Call
  Hands : (channel : ℕ) → (bytes : List ℕ) → Call
  Draws : Call
  Sends : (sealed : Sealed) → (records : List RecordView) → Call
  Turns : Call
  Learns : (frame : ℕ) → (stage : Stage) → Call
  Cuts : (cut : Cut) → Call
  Stops : Call
  Decides : (outcome : Outcome) → Call
  Rests : Call

-- ---- what stays

abbrev pub SameBatches : StoreView → StoreView → Type 0
SameBatches a b = (b.limits ≡ a.limits) × (b.batched ≡ a.batched) × (b.places ≡ a.places)

abbrev pub SameChannels : StoreView → StoreView → Type 0
SameChannels a b = (b.limits ≡ a.limits) × (b.channels ≡ a.channels)

abbrev pub SameLog : StoreView → StoreView → Type 0
SameLog a b = (b.limits ≡ a.limits) × (b.places ≡ a.places)

-- ---- channels

-- the past of a channel changes so
abbrev pub Passes : (Past → Past) → ℕ → StoreView → StoreView → Type 0
Passes change t a b = (before : Channel) × (after : Channel) × Becomes t before after a.channels b.channels × Goes change before after

-- bytes ask for this, with the next ticket
abbrev pub AsksFor : List ℕ → Ask → ℕ → ℕ → StoreView → StoreView → Type 0
AsksFor bytes ask ticket t a b =
    (before : Channel) × (after : Channel) × Becomes t before after a.channels b.channels × Goes (asked_for bytes ask) before after
    × ((limits : Requests) (p : Past) → HasPast limits p before → ticket ≡ length p.asked + 1)

-- the ticket was given and told nothing
abbrev pub MayBeTold : ℕ → ℕ → StoreView → Type 0
MayBeTold ticket t a = (channel : Channel) (limits : Requests) (p : Past) → channel_at a.channels t ≡ Some channel
    → HasPast limits p channel → (length p.told < ticket) × (ticket ≤ length p.asked)

-- no ticket from the first answer on, or from the next that is given on, is before this one
abbrev pub IsBound : ℕ → ℕ → StoreView → Type 0
IsBound ticket t a = (channel : Channel) × (channel_at a.channels t ≡ Some channel) × (ticket ≡ bound channel (first_answer a t))

-- ---- works

-- what is carried out for what was asked for: that; or, where it names a key that is too long, the error for that
abbrev pub IsFor : Batches → Asker → Ask → Work → Type 0
IsFor b asker ask work = (work ≡ work_of ask)
    ⊎ ((work ≡ error long_key_words)
    × ((known : List (List ℕ)) × KnowsIfTold b.kernel (work_of ask) known × (against b (asked_by asker known (work_of ask)) ≡ Some LongKey)))

-- work is carried out, once it is seen that no other may be
pub record IsDone (b : Batches) (ask : Ask) (asked : Asked) (answer : Answer) (rests : List ℕ) (c : Batches) : Type 0 where
  pub seen : Batches
  pub still : Stays b seen
  pub is_for : IsFor b (record { channel = asked.channel; ticket = asked.ticket }) ask asked.work
  pub free : names_reserved asked.work ≡ false
  pub carries : CarriesOut seen (record asked { batch = None }) c
  pub told : IsTold seen asked answer rests

-- nothing of what was asked for is done, for this reason
abbrev pub LeavesIt : Batches → Asker → Ask → NotDone → Batches → Type 0
LeavesIt b asker ask why c = (seen : Batches) × Stays b seen × (work : Work) × IsFor b asker ask work × IsNotDone why seen asker work c

-- ---- each call

abbrev pub Does : StoreView → Call → StoreView → Type 0
Does a (Connects t) b = (channel : Channel) × HasPast a.limits.requests no_past channel
    × (channel.outlet.most ≡ a.limits.waiting) × table.Connects channel (Ok t) a.channels b.channels × SameBatches a b
Does a (HangsUp t) b = table.HangsUp t a.channels b.channels × SameBatches a b
Does a (Frees t) b = (first_answer a t ≡ None) × table.Releases t a.channels b.channels × SameBatches a b
Does a (Hears t bytes) b = Passes (came bytes) t a b × SameBatches a b
Does a (Carries t bytes ask asked answer rests) b = (list_any (λ b. is_refused b.stage) a.batched.queue.batches ≡ false) × (t ≡ asked.channel) × AsksFor bytes ask asked.ticket t a b
    × IsDone a.batched ask asked answer rests b.batched × SameLog a b
Does a (Declines t bytes ask ticket why) b = AsksFor bytes ask ticket t a b
    × LeavesIt a.batched (record { channel = t; ticket = ticket }) ask why b.batched × SameLog a b
Does a (Tells t ticket answer) b = MayBeTold ticket t a × Passes (was_told ticket (answer_text answer)) t a b
    × TakesOut a.batched.kernel.parts t (ticket, answer) b.batched.kernel.parts × (b.batched.queue ≡ a.batched.queue)
    × (b.batched.begun ≡ a.batched.begun) × SameLog a b
Does a (Drops t ticket answer) b = (channel_at a.channels t ≡ None)
    × TakesOut a.batched.kernel.parts t (ticket, answer) b.batched.kernel.parts × (b.batched.queue ≡ a.batched.queue)
    × (b.batched.begun ≡ a.batched.begun) × SameChannels a b × (b.places ≡ a.places)
Does a (Refuses t ticket) b = IsBound ticket t a × Passes (was_refused ticket) t a b × SameBatches a b
Does a (Hands t bytes) b = Passes (was_handed bytes) t a b × SameBatches a b
Does a Draws b = (is_full a.batched ≡ false) × Begins a.batched b.batched × SameChannels a b × (b.places ≡ a.places)
Does a (Sends sealed records) b = (room : List ℕ) × (filled : List ℕ) × NextPost (Ok sealed) a.batched a.places room b.batched b.places filled
    × (records ≡ next_records a.batched.queue) × SameChannels a b
Does a Turns b = (segment : ℕ) × (next_segment a.places ≡ Some segment)
    × (b ≡ record a { places = record a.places { segment = segment; offset = 0 } })
Does a (Learns frame stage) b = ((stage ≡ Synced) ⊎ (stage ≡ Failed)) × (word_refused a.batched.queue frame ≡ None)
    × (b ≡ record a { batched = record a.batched { queue = after_word frame stage a.batched.queue } })
Does a (Cuts cut) b = (a.batched.queue.stopped ≡ false) × (cut_due a.batched.queue ≡ Some cut)
    × ((segment : ℕ) × (next_segment a.places ≡ Some segment)
    × (b ≡ record a {
      batched = record a.batched { queue = after_cut cut a.batched.queue };
      places = record a.places { segment = segment; offset = 24 };
    }))
Does a Stops b = (a.batched.queue.stopped ≡ false) × ((cut : Cut) × (cut_due a.batched.queue ≡ Some cut))
    × (b ≡ record a { batched = record a.batched { queue = record a.batched.queue { stopped = true } } })
Does a (Decides outcome) b = DecidePost (Some outcome) a.batched b.batched × SameChannels a b × (b.places ≡ a.places)
Does a Rests b = Stays a.batched b.batched × KeepsAll a.channels b.channels × SameLog a b

-- any calls of a store, one after another
abbrev pub Serves : StoreView → List Call → StoreView → Type 0
Serves a [] b = a ≡ b
Serves a (c ∷ cs) b = (m : StoreView) × Does a c m × Serves m cs b
