-- What each call of a store answers, and what it leaves.
use Rattle.std.specs.Prelude.{◌≡◌, ◌≢◌, ◌⊎◌, ◌||◌, ◌==◌, if◌then◌else◌, ◌+◌, ◌-◌, ◌<◌, ◌≤◌, ◌^◌, ℕ, Bool, true, false, is_some, nat_le, min, List, [], ◌++◌, length, map, take, drop, Option, Some, None, Result, Ok, Err}
use Rattle.sk_durable.specs.Base.{list_any, AllByRecursion, released, said_at, frame, word_refused, next_segment, cut_due, is_refused}
use Rattle.sk_durable.specs.Base.{undecided, Stage, Sealed, Cut, Queued, NextPost, Outcome, Channel, Ask, Do}
use Rattle.sk_durable.specs.Base.{posed_ticket, channel_at, Answer, Work, answer_text, Entries, Requests, after_work}
use Rattle.sk_durable.specs.Base.{Asked, NotDone, Refusal, NoChannel, DecisionDue, Full, NoTicket, Memory, End, Fed}
use Rattle.sk_durable.specs.Base.{Next, Asker}
use Rattle.sk_batches.specs.declared.refusal.Refusal.TheVariants as queued
use Rattle.sk_batches.specs.Queue as queues
use Rattle.sk_durable.specs.Asked.{told_work}
use Rattle.sk_durable.specs.Works.{ahead_of}
use Rattle.sk_durable.specs.Store.{first_answer, has_refusals, HasPast, IsNew, Past, StoreView}
use Rattle.sk_durable.specs.Calls.{Call, Connects, HangsUp, Frees, Hears, Carries, Declines, Tells, Drops, Refuses, Hands, Draws, Turns, Learns, Cuts, Stops, Decides, Rests, Does, IsDone, LeavesIt, Serves}

-- ---- work that is in the log already

-- A new store with these entries is a new one with those after the work; after a refusal it has these.
abbrev pub RestorePost : Work → Result (Unit {0}) NotDone → StoreView → StoreView → Type 0
RestorePost work (Ok _) a b = (next : Next) (start : Entries) → IsNew a.limits next start a → IsNew a.limits next (after_work work start) b
RestorePost work (Err why) a b = (next : Next) (start : Entries) → IsNew a.limits next start a → IsNew a.limits next start b

-- ---- channels

abbrev pub ConnectPost : Result ℕ Refusal → StoreView → StoreView → Type 0
ConnectPost (Ok t) a b = Does a (Connects t) b
ConnectPost (Err Full) a b = (10000 ≤ a.channels.places.vacant_key) × Does a Rests b
ConnectPost (Err Memory) a b = Does a Rests b
ConnectPost (Err other) a b = ⊥

-- these answers of a channel are dropped, or told
abbrev pub drops : ℕ → List (ℕ × Answer) → List Call
drops t answers = map (λ x. Drops t x.0 x.1) answers

abbrev pub tells : ℕ → List (ℕ × Answer) → List Call
tells t answers = map (λ x. Tells t x.0 x.1) answers

-- nothing of a channel may go out
abbrev pub HasNoneReady : ℕ → StoreView → Type 0
HasNoneReady t s = released (said_at s.batched.kernel.parts.said t) ≡ []

-- the number is freed where no answer is left
abbrev pub FreesIfLast : ℕ → Option (ℕ × Answer) → StoreView → StoreView → Type 0
FreesIfLast t None a b = Does a (Frees t) b
FreesIfLast t (Some told) a b = b ≡ a

-- the answers that may go out are dropped
abbrev pub LetGoPost : ℕ → StoreView → StoreView → Type 0
LetGoPost t a b = (answers : List (ℕ × Answer)) × (m : StoreView) × Serves a (drops t answers) m × HasNoneReady t m
    × FreesIfLast t (first_answer m t) m b

abbrev pub HangUpPost : ℕ → StoreView → StoreView → Type 0
HangUpPost t a b = (m : StoreView) × Does a (HangsUp t) m × LetGoPost t m b

-- ---- the way in

-- what became of what was asked for
abbrev pub TryPost : Bool → Asker → Ask → Result (Option (List ℕ)) NotDone → StoreView → StoreView → Type 0
TryPost looks asker ask (Ok ahead) a b = (asked : Asked) × (answer : Answer) × (rests : List ℕ) × (asked.channel ≡ asker.channel) × (asked.ticket ≡ asker.ticket)
    × IsDone a.batched ask asked answer rests b.batched × (ahead ≡ ahead_of looks answer) × (b ≡ record a { batched = b.batched })
TryPost looks asker ask (Err why) a b = LeavesIt a.batched asker ask why b.batched × (b ≡ record a { batched = b.batched })

abbrev pub AnswerPost : Bool → Asker → Ask → End → StoreView → StoreView → Type 0
AnswerPost looks asker ask End.Done a b = (asked : Asked) × (answer : Answer) × (rests : List ℕ) × (asked.channel ≡ asker.channel) × (asked.ticket ≡ asker.ticket)
    × IsDone a.batched ask asked answer rests b.batched × (b ≡ record a { batched = b.batched; ahead = ahead_of looks answer })
AnswerPost looks asker ask (End.NotDone why) a b = LeavesIt a.batched asker ask why b.batched × (b ≡ record a { batched = b.batched })
AnswerPost looks asker ask other a b = ⊥

-- whether the host is asked on a channel
abbrev pub is_posed : Option Channel → Bool
is_posed None = false
is_posed (Some channel) = is_some channel.inlet.posed

-- what became of bytes that end no request that is carried out
abbrev pub end_of : Bool → End
end_of true = End.Asked
end_of false = End.Part

-- these bytes came, and what they end became this; its answer is told ahead, where it is looked at
abbrev pub Ends : Bool → ℕ → List ℕ → End → StoreView → StoreView → Type 0
Ends looks t bytes End.Done a b = (ask : Ask) × (asked : Asked) × (answer : Answer) × (rests : List ℕ)
    × Does a (Carries t bytes ask asked answer rests) b × (b.ahead ≡ ahead_of looks answer)
Ends looks t bytes (End.NotDone why) a b = (ask : Ask) × (ticket : ℕ) × Does a (Declines t bytes ask ticket why) b × (b.ahead ≡ a.ahead)
Ends looks t bytes other a b = Does a (Hears t bytes) b × (other ≡ end_of (is_posed (channel_at b.channels t))) × (b.ahead ≡ a.ahead)

-- a channel has given its last ticket
abbrev pub HasGivenAll : ℕ → StoreView → Type 0
HasGivenAll t a = (channel : Channel) × (channel_at a.channels t ≡ Some channel)
    × ((limits : Requests) (p : Past) → HasPast limits p channel → length p.asked + 1 ≡ 2 ^ 64 - 1)

-- whether a batch was cut off that is not told as decided yet
abbrev pub has_refused : StoreView → Bool
has_refused a = list_any (λ b. is_refused b.stage) a.batched.queue.batches

-- whether as many bytes are undecided as may be, or as many commands wait for their answers to be told
abbrev pub is_at_limit : StoreView → Bool
is_at_limit a = nat_le a.limits.undecided (undecided a.batched.queue) || nat_le a.limits.commands (length a.batched.kernel.parts.said)

-- no batch was cut off without being decided, and there is room for more
abbrev pub MayFeed : StoreView → Type 0
MayFeed a = (has_refused a ≡ false) × (is_at_limit a ≡ false)

-- so many bytes came, and what they end became this; after a refusal nothing is seen to have changed
abbrev pub TakePost : Bool → ℕ → List ℕ → Result Fed Refusal → StoreView → StoreView → Type 0
TakePost looks t bytes (Ok fed) a b = MayFeed a × (fed.count ≤ length bytes) × (0 < length bytes → fed.end ≢ End.Asked → 0 < fed.count)
    × Ends looks t (take fed.count bytes) fed.end a b
TakePost looks t bytes (Err DecisionDue) a b = (has_refused a ≡ true) × (b ≡ a)
TakePost looks t bytes (Err Full) a b = (has_refused a ≡ false) × (is_at_limit a ≡ true) × (b ≡ a)
TakePost looks t bytes (Err NoChannel) a b = MayFeed a × (channel_at a.channels t ≡ None) × (b ≡ a)
TakePost looks t bytes (Err NoTicket) a b = MayFeed a × HasGivenAll t a × Does a (Hears t []) b
TakePost looks t bytes (Err Memory) a b = MayFeed a × Does a (Hears t []) b

abbrev pub FeedPost : ℕ → List ℕ → Result Fed Refusal → StoreView → StoreView → Type 0
FeedPost t bytes result a b = TakePost false t bytes result a b

-- nothing is told ahead before
abbrev pub FeedAheadPost : ℕ → List ℕ → Result Fed Refusal → StoreView → StoreView → Type 0
FeedAheadPost t bytes result a b = TakePost true t bytes result (record a { ahead = None }) b

-- ---- what the host is asked

-- the ticket of the request that it is asked on a channel
abbrev pub PosedPost : ℕ → Result ℕ Refusal → StoreView → Type 0
PosedPost t (Ok ticket) a = (channel : Channel) × (channel_at a.channels t ≡ Some channel) × (posed_ticket channel.inlet ≡ Some ticket)
PosedPost t (Err NoChannel) a = channel_at a.channels t ≡ None
PosedPost t (Err NoTicket) a = (channel : Channel) × (channel_at a.channels t ≡ Some channel) × (posed_ticket channel.inlet ≡ None)
PosedPost t (Err other) a = ⊥

-- what it told is carried out as work that only replies that; after a refusal nothing has changed, but that the guess of the open batch
-- may be drawn where there was no memory
abbrev pub TellPost : ℕ → List ℕ → Result (Unit {0}) Refusal → StoreView → StoreView → Type 0
TellPost t text (Ok _) a b = (asked : Asked) × (answer : Answer) × (rests : List ℕ)
    × Does a (Carries t [] (Do (told_work text)) asked answer rests) b × (answer_text answer ≡ text)
    × PosedPost t (Ok asked.ticket) a × (is_posed (channel_at b.channels t) ≡ false)
TellPost t text (Err DecisionDue) a b = (has_refused a ≡ true) × (b ≡ a)
TellPost t text (Err Memory) a b = (has_refused a ≡ false) × (Does a Rests b ⊎ Does a Draws b)
TellPost t text (Err why) a b = (has_refused a ≡ false) × PosedPost t (Err why) a × (b ≡ a)

-- ---- the way out

-- more bytes wait than may
abbrev pub HoldsTooMany : ℕ → StoreView → Type 0
HoldsTooMany t s = (channel : Channel) × (channel_at s.channels t ≡ Some channel) × (channel.outlet.most < length channel.outlet.waiting)

-- the first answer is for a ticket that was not given, or was told already; in no run is it
abbrev pub IsStray : ℕ → StoreView → Type 0
IsStray t s = (told : ℕ × Answer) × (first_answer s t ≡ Some told) × (channel : Channel) × (channel_at s.channels t ≡ Some channel)
    × ((limits : Requests) (p : Past) → HasPast limits p channel → (told.0 ≤ length p.told) ⊎ (length p.asked < told.0))

-- why no more is told: there is no such channel, more waits than may, an answer is stray, or there is no memory
abbrev pub IsHeldUp : Refusal → ℕ → StoreView → Type 0
IsHeldUp NoChannel t s = channel_at s.channels t ≡ None
IsHeldUp Full t s = HoldsTooMany t s
IsHeldUp NoTicket t s = IsStray t s
IsHeldUp Memory t s = Unit {0}
IsHeldUp DecisionDue t s = ⊥

-- no more is told: where there is the channel nothing of it is seen to have changed, else nothing has
abbrev pub StopsThere : Refusal → ℕ → StoreView → StoreView → Type 0
StopsThere NoChannel t a b = b ≡ a
StopsThere other t a b = Does a (Hands t []) b

-- the answers that may go out are told, one after another: all, or up to where no more is
abbrev pub BringAnswersPost : ℕ → Result (Unit {0}) Refusal → StoreView → StoreView → Type 0
BringAnswersPost t (Ok _) a b = (answers : List (ℕ × Answer)) × Serves a (tells t answers) b × HasNoneReady t b
BringAnswersPost t (Err why) a b = (answers : List (ℕ × Answer)) × (m : StoreView) × Serves a (tells t answers) m × IsHeldUp why t m
    × StopsThere why t m b

-- and then the tickets before the first answer that waits, or all that are left, are told that nothing was done
abbrev pub BringPost : ℕ → Result (Unit {0}) Refusal → StoreView → StoreView → Type 0
BringPost t (Ok _) a b = (answers : List (ℕ × Answer)) × (m : StoreView) × (ticket : ℕ) × Serves a (tells t answers) m × HasNoneReady t m
    × Does m (Refuses t ticket) b
BringPost t (Err why) a b = BringAnswersPost t (Err why) a b

-- the next bytes that wait are in the room, which is as it was behind them
abbrev pub HandsOver : ℕ → ℕ → List ℕ → List ℕ → StoreView → StoreView → Type 0
HandsOver t count room filled a b = Does a (Hands t (take count filled)) b × (drop count filled ≡ drop count room)
    × ((channel : Channel) → channel_at a.channels t ≡ Some channel → count ≡ min (length room) (length channel.outlet.waiting))

-- what is told where so many bytes were moved out, and this came of what was brought: where none was, for want of memory, that
abbrev pub moved : Result (Unit {0}) Refusal → ℕ → Result ℕ Refusal
moved (Err Memory) count = if count == 0 then Err Memory else Ok count
moved other count = Ok count

abbrev pub OutputPost : ℕ → Result ℕ Refusal → List ℕ → List ℕ → StoreView → StoreView → Type 0
OutputPost t (Ok count) room filled a b = (brought : Result (Unit {0}) Refusal) × (brought ≢ Err NoChannel)
    × (m : StoreView) × BringPost t brought a m × HandsOver t count room filled m b × (brought ≡ Err Memory → 0 < count)
OutputPost t (Err NoChannel) room filled a b = (channel_at a.channels t ≡ None) × (b ≡ a) × (filled ≡ room)
OutputPost t (Err Memory) room filled a b = (m : StoreView) × BringPost t (Err Memory) a m × HandsOver t 0 room filled m b
OutputPost t (Err other) room filled a b = ⊥

-- some of it is dropped, or a number is freed
abbrev pub LetsGo : Call → Type 0
LetsGo (Drops t ticket answer) = Unit {0}
LetsGo (Frees t) = Unit {0}
LetsGo other = ⊥

-- of channels that were hung up some answers are dropped
abbrev pub Sweeps : StoreView → StoreView → Type 0
Sweeps a b = (cs : List Call) × Serves a cs b × AllByRecursion LetsGo cs

-- the store has something for this channel: tickets that are told that nothing was done, or an answer that may go out
abbrev pub IsReady : ℕ → StoreView → Type 0
IsReady t s = (channel : Channel) × (channel_at s.channels t ≡ Some channel)
    × ((has_refusals (Some channel) (first_answer s t) ≡ true) ⊎ (HasNoneReady t s → ⊥))

abbrev pub RefusedPost : Option ℕ → StoreView → StoreView → Type 0
RefusedPost None a b = Sweeps a b
RefusedPost (Some t) a b = Sweeps a b × (has_refusals (channel_at b.channels t) (first_answer b t) ≡ true)

-- where there is none no answer may go out of any channel
abbrev pub ReadyPost : Option ℕ → StoreView → StoreView → Type 0
ReadyPost None a b = Sweeps a b × ((t : ℕ) → HasNoneReady t b)
ReadyPost (Some t) a b = Sweeps a b × IsReady t b

-- ---- the log

abbrev pub FramePost : Result Sealed Queued → List ℕ → List ℕ → StoreView → StoreView → Type 0
FramePost result room filled a b = NextPost result a.batched a.places room b.batched b.places filled × (b.limits ≡ a.limits) × (b.channels ≡ a.channels)

abbrev pub TurnPost : Result (Unit {0}) Queued → StoreView → StoreView → Type 0
TurnPost (Ok _) a b = Does a Turns b
TurnPost (Err why) a b = (next_segment a.places ≡ None) × (why ≡ queued.NoNumber) × (b ≡ a)

-- the host's word on a frame: it is on the disk, or was not written, and its batches are to be cut off; or it is `Unknown`
abbrev pub LearnPost : Stage → ℕ → Result (Unit {0}) Queued → StoreView → StoreView → Type 0
LearnPost stage number (Ok _) a b = Does a (Learns number stage) b
LearnPost stage number (Err why) a b = (word_refused a.batched.queue number ≡ Some why) × (b ≡ a)

-- the frame that makes the cut stands at the front of the room; it is to be written at the front of the next segment
abbrev pub CutFramePost : Result Sealed Queued → List ℕ → List ℕ → StoreView → Type 0
CutFramePost (Ok sealed) room filled a = (cut : Cut) × (cut_due a.batched.queue ≡ Some cut) × (segment : ℕ) × (next_segment a.places ≡ Some segment)
    × (sealed ≡ record { frame = cut.frame; segment = segment; offset = 0; len = 24 }) × (24 ≤ length room)
    × (filled ≡ frame segment cut.frame [] ++ drop 24 room)
CutFramePost (Err queued.NoCut) room filled a = (cut_due a.batched.queue ≡ None) × (filled ≡ room)
CutFramePost (Err queued.NoNumber) room filled a = (next_segment a.places ≡ None) × (filled ≡ room)
CutFramePost (Err queued.Short) room filled a = (length room < 24) × (filled ≡ room)
CutFramePost (Err other) room filled a = ⊥

-- the cut that is due was made, or could not be, and then the store stops
abbrev pub CutPost : Bool → Result (Unit {0}) Queued → StoreView → StoreView → Type 0
CutPost true (Ok _) a b = (cut : Cut) × Does a (Cuts cut) b
CutPost false (Ok _) a b = Does a Stops b
CutPost true (Err queued.NoNumber) a b = (next_segment a.places ≡ None) × (b ≡ a)
CutPost made (Err queued.Stopped) a b = (a.batched.queue.stopped ≡ true) × (b ≡ a)
CutPost made (Err queued.NoCut) a b = (cut_due a.batched.queue ≡ None) × (b ≡ a)
CutPost made (Err other) a b = ⊥

abbrev pub DecidePost : Option Outcome → StoreView → StoreView → Type 0
DecidePost None a b = (queues.decided a.batched.queue.batches ≡ None) × (b ≡ a)
DecidePost (Some outcome) a b = Does a (Decides outcome) b
