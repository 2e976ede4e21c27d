-- What the calls of a store do, and what they are told.
use Rattle.std.specs.Prelude.{◌≡◌, ◌+◌, ◌==◌, ℕ, not, List, length, Option, Some, None, if◌then◌else◌, Result, Ok, Err}
use Rattle.sk_handles.specs.Base.{option_map_or, look_at, bytes_cmp, next_payload, cut_due, in_flight, undecided}
use Rattle.sk_handles.specs.Base.{Sealed, Cut, Queued, Outcome, channel_at, End, Fed, ConnectPost, CutFramePost}
use Rattle.sk_handles.specs.Base.{CutPost, DecidePost, FeedAheadPost, FeedPost, FramePost, HangUpPost, LearnPost}
use Rattle.sk_handles.specs.Base.{OutputPost, ReadyPost, TellPost, asked_at, is_closed, queued_bytes, StoreView, WindUpPost, ABSENT}
use Rattle.sk_handles.specs.Base.{COMMITTED, DONE, FAILED, MEMORY, REFUSED, SHOWN, CutOff, FramePlace, StoreCounts}
use Rattle.sk_handles.specs.Base.{Told, NotDone, Name, may_write_by}
use Rattle.sk_batches.specs.declared.batch.Stage.TheVariants as stages
use Rattle.sk_batches.specs.declared.refusal.Refusal.TheVariants as queued
use Rattle.sk_durable.specs.declared.refusal.Refusal.{Refusal}
use Rattle.sk_durable.specs.Posts.{TurnPost}
use Rattle.sk_handles.specs.OwnCalls.{ShowsBytes}
use Rattle.sk_handles.specs.Told.{just, told_by}

-- ---- what is told

-- the refusals of calls of channels
abbrev pub store_refused : Refusal → Told
store_refused Refusal.NoChannel = just REFUSED 1
store_refused Refusal.DecisionDue = just REFUSED 2
store_refused Refusal.Full = just REFUSED 3
store_refused Refusal.NoTicket = just REFUSED 4
store_refused Refusal.Memory = just MEMORY 0

-- the refusals of calls of frames
abbrev pub queue_refused : Queued → Told
queue_refused queued.Full = just REFUSED 3
queue_refused queued.Stopped = just REFUSED 5
queue_refused queued.Nothing = just REFUSED 6
queue_refused queued.Busy = just REFUSED 7
queue_refused queued.NoNumber = just REFUSED 8
queue_refused queued.Short = just REFUSED 9
queue_refused queued.Unknown = just REFUSED 10
queue_refused queued.NoCut = just REFUSED 11
queue_refused queued.Memory = just MEMORY 0

-- the number of what became of a request: it is not whole yet, it was carried out, why nothing of it was done, or the host is asked
abbrev pub end_number : End → ℕ
end_number End.Part = 0
end_number End.Done = 1
end_number (End.NotDone NotDone.LongKey) = 2
end_number (End.NotDone NotDone.Stopped) = 3
end_number (End.NotDone NotDone.Full) = 4
end_number (End.NotDone NotDone.TooMany) = 5
end_number (End.NotDone NotDone.Memory) = 6
end_number End.Asked = 7

-- how many bytes were taken, and what became of the request that they end
abbrev pub fed_told : Result Fed Refusal → Told
fed_told did = told_by (λ fed. record { answer = DONE; number = end_number fed.end; bytes = fed.count }) store_refused did

-- how many bytes were moved
abbrev pub output_told : Result ℕ Refusal → Told
output_told did = told_by (λ count. record { answer = DONE; number = 0; bytes = count }) store_refused did

abbrev pub done_told : Result (Unit {0}) Queued → Told
done_told did = told_by (λ _. just DONE 0) queue_refused did

-- the batch; of one that is refused also how many keys were taken back
abbrev pub outcome_told : Option Outcome → Told
outcome_told (Some (Outcome.Logged batch)) = just COMMITTED batch
outcome_told (Some (Outcome.Refused batch keys)) = record { answer = FAILED; number = batch; bytes = keys }
outcome_told None = just ABSENT 0

-- whether a request may write whose first word says this name, or that it says none
abbrev pub may_write_told : Option Name → Told
may_write_told (Some name) = just DONE (if may_write_by name then 1 else 0)
may_write_told None = just ABSENT 0

-- ---- where a frame is to be written

abbrev pub place_of : Sealed → FramePlace
place_of s = record { frame = s.frame; segment = s.segment; offset = s.offset; len = s.len }

-- the place of a frame is told, or why there is no frame
abbrev pub IsDone : Result Sealed Queued → Told → FramePlace → FramePlace → Type 0
IsDone (Ok sealed) told old new = (told ≡ just DONE 0) × (new ≡ place_of sealed)
IsDone (Err why) told old new = (told ≡ queue_refused why) × (new ≡ old)

-- ---- what is done

abbrev pub Connects : Told → StoreView → StoreView → Type 0
Connects told a b = (did : Result ℕ Refusal) × (told ≡ told_by (just DONE) store_refused did) × ConnectPost did a b

pub record HangsUp (channel : ℕ) (told : Told) (a b : StoreView) : Type 0 where
  pub told_is : told ≡ just DONE 0
  pub hangs_up : HangUpPost channel a b

abbrev pub Feeds : ℕ → List ℕ → Told → StoreView → StoreView → Type 0
Feeds channel bytes told a b = (did : Result Fed Refusal) × (told ≡ fed_told did) × FeedPost channel bytes did a b

abbrev pub FeedsAhead : ℕ → List ℕ → Told → StoreView → StoreView → Type 0
FeedsAhead channel bytes told a b = (did : Result Fed Refusal) × (told ≡ fed_told did) × FeedAheadPost channel bytes did a b

-- the host tells the reply to what it is asked
abbrev pub TellsReply : ℕ → List ℕ → Told → StoreView → StoreView → Type 0
TellsReply channel text told a b = (did : Result (Unit {0}) Refusal) × (told ≡ told_by (λ _. just DONE 0) store_refused did) × TellPost channel text did a b

abbrev pub ShowsAhead : List ℕ → List ℕ → Told → StoreView → Type 0
ShowsAhead room filled told a = ShowsBytes told a.ahead room filled

abbrev pub ShowsAsked : ℕ → ℕ → List ℕ → List ℕ → Told → StoreView → Type 0
ShowsAsked channel place room filled told a = ShowsBytes told (asked_at place (channel_at a.channels channel)) room filled

abbrev pub OutputsTo : ℕ → List ℕ → List ℕ → Told → StoreView → StoreView → Type 0
OutputsTo channel room filled told a b = (did : Result ℕ Refusal) × (told ≡ output_told did) × OutputPost channel did room filled a b

abbrev pub NextReady : Told → StoreView → StoreView → Type 0
NextReady told a b = (did : Option ℕ) × (told ≡ option_map_or (just DONE) did (just ABSENT 0)) × ReadyPost did a b

abbrev pub TakesFrame : List ℕ → List ℕ → FramePlace → FramePlace → Told → StoreView → StoreView → Type 0
TakesFrame room filled old new told a b = (did : Result Sealed Queued) × IsDone did told old new × FramePost did room filled a b

abbrev pub Turns : Told → StoreView → StoreView → Type 0
Turns told a b = (did : Result (Unit {0}) Queued) × (told ≡ done_told did) × TurnPost did a b

abbrev pub Syncs : ℕ → Told → StoreView → StoreView → Type 0
Syncs frame told a b = (did : Result (Unit {0}) Queued) × (told ≡ done_told did) × LearnPost stages.Synced frame did a b

abbrev pub Fails : ℕ → Told → StoreView → StoreView → Type 0
Fails frame told a b = (did : Result (Unit {0}) Queued) × (told ≡ done_told did) × LearnPost stages.Failed frame did a b

-- the cut that is due is told, or there is none
abbrev pub CutIs : Option Cut → Told → CutOff → CutOff → Type 0
CutIs None told old new = (told ≡ just ABSENT 0) × (new ≡ old)
CutIs (Some c) told old new = (told ≡ just DONE 0) × (new ≡ record { frame = c.frame; first = c.first; last = c.last })

abbrev pub TellsCut : CutOff → CutOff → Told → StoreView → Type 0
TellsCut old new told a = CutIs (cut_due a.batched.queue) told old new

abbrev pub SendsHead : List ℕ → List ℕ → FramePlace → FramePlace → Told → StoreView → Type 0
SendsHead room filled old new told a = (did : Result Sealed Queued) × IsDone did told old new × CutFramePost did room filled a

-- 0 says that the cut could not be made, any other number that it was
abbrev pub CutsOff : ℕ → Told → StoreView → StoreView → Type 0
CutsOff made told a b = (did : Result (Unit {0}) Queued) × (told ≡ done_told did) × CutPost (not (made == 0)) did a b

-- the leadership is over by which the log lies in an engine: what was open is refused
abbrev pub WindsUp : List ℕ → Told → StoreView → StoreView → Type 0
WindsUp room told a b = (did : Result (Unit {0}) Queued) × (told ≡ done_told did) × WindUpPost did (length room) a b

abbrev pub Decides : Told → StoreView → StoreView → Type 0
Decides told a b = (did : Option Outcome) × (told ≡ outcome_told did) × DecidePost did a b

-- ---- what is there

abbrev pub value_at : List ℕ → StoreView → Option (List ℕ)
value_at key a = look_at bytes_cmp a.batched.kernel.parts.slots key

-- the undecided bytes, the frames in flight, the batches that are undecided and have a guess, how long the next frame is, and the
-- answers that were not taken out
pub record AreStoreCounts (a : StoreView) (counts : StoreCounts) : Type 0 where
  pub undecided : counts.undecided ≡ undecided a.batched.queue
  pub in_flight : counts.in_flight ≡ in_flight a.batched.queue
  pub open_batches : counts.open_batches ≡ length a.batched.kernel.parts.opens
  pub next_frame : counts.next_frame ≡ 24 + length (next_payload a.batched.queue)
  pub answers : counts.answers ≡ length a.batched.kernel.parts.said

abbrev pub TellsClosed : ℕ → Told → StoreView → Type 0
TellsClosed channel told a = told ≡ just DONE (if is_closed (channel_at a.channels channel) then 1 else 0)

-- how many bytes the commands take that wait for EXEC on a channel
abbrev pub TellsQueued : ℕ → Told → StoreView → Type 0
TellsQueued channel told a = told ≡ record { answer = DONE; number = 0; bytes = queued_bytes (channel_at a.channels channel) }

-- of how many keys there are old values that can be dropped
abbrev pub TellsLeft : Told → StoreView → Type 0
TellsLeft told a = told ≡ record { answer = DONE; number = 0; bytes = told.bytes }

abbrev pub CountsStore : StoreCounts → Told → StoreView → Type 0
CountsStore counts told a = (told ≡ just SHOWN 0) × AreStoreCounts a counts
