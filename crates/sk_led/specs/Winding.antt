-- How a store is wound up, and how it ends.
use Rattle.std.specs.Prelude.{◌≡◌, ◌⊎◌, ◌≢◌, ◌≤◌, ℕ, Bool, true, false, List, [], ◌∷◌, ◌++◌, Some, None, Result, Ok, Err}
use Rattle.sk_led.specs.Base.{list_any, Contains, Batch, Failed, Sealed, Refusal, Stopped, Full, Nothing, Busy}
use Rattle.sk_led.specs.Base.{NoNumber, Short, NoCut, Memory, word_refused, frame_refused, next_segment, cut_due}
use Rattle.sk_led.specs.Base.{decided, in_flight, is_failed, next_records, RecordView, next_refused, Entries, Limits}
use Rattle.sk_led.specs.Base.{Next, Call, Cuts, Decides, Does, Draws, Learns, Rests, Sends, Serves, Turns, HasDone}
use Rattle.sk_led.specs.Base.{StoreView, batch_of, World, WasSent}
use Rattle.sk_led.specs.Led.{IsGivenUp, IsLeading, IsLed}

-- Only this: frames are cut off and batches decided; the log goes on in the next segment; and a frame that is taken is told as failed at
-- once, so that the host sends none. Without memory for one the guess of the open batch may be drawn, or nothing is seen to change.
abbrev pub AreLast : List Call → Type 0
AreLast [] = Unit {0}
AreLast (Sends sealed records ∷ Learns frame Failed ∷ cs) = (frame ≡ sealed.frame) × AreLast cs
AreLast (Cuts cut ∷ cs) = AreLast cs
AreLast (Decides outcome ∷ cs) = AreLast cs
AreLast (Turns ∷ cs) = AreLast cs
AreLast (Draws ∷ cs) = AreLast cs
AreLast (Rests ∷ cs) = AreLast cs
AreLast other = ⊥

abbrev pub DoesLast : StoreView → StoreView → Type 0
DoesLast a b = (cs : List Call) × Serves a cs b × AreLast cs

abbrev pub any_failed : StoreView → Bool
any_failed s = list_any (λ b. is_failed b.stage) s.batched.queue.batches

-- nothing is in flight, nothing is to be decided, and nothing waits for a frame: what was open is refused
pub record IsEnded (s : StoreView) : Type 0 where
  pub flight : in_flight s.batched.queue ≡ 0
  pub decided : decided s.batched.queue.batches ≡ None
  pub records : next_records s.batched.queue ≡ []

-- a frame waits for its word: what was sent is neither decided nor to be cut off
pub record Awaits (s : StoreView) : Type 0 where
  pub flight : in_flight s.batched.queue ≢ 0
  pub decided : decided s.batched.queue.batches ≡ None
  pub uncut : cut_due s.batched.queue ≡ None

-- why there is no end yet; want of memory only where nothing else is against the next frame
abbrev pub IsAgainst : Refusal → ℕ → StoreView → Type 0
IsAgainst Stopped room s = (s.batched.queue.stopped ≡ true) ⊎ (next_refused s.batched s.places room ≡ Some Stopped)
IsAgainst NoCut room s = (any_failed s ≡ true) × (cut_due s.batched.queue ≡ None)
IsAgainst Busy room s = Awaits s ⊎ (next_refused s.batched s.places room ≡ Some Busy)
IsAgainst NoNumber room s = (next_segment s.places ≡ None) ⊎ (next_refused s.batched s.places room ≡ Some NoNumber)
IsAgainst Full room s = (next_refused s.batched s.places room ≡ Some Full) × (s.places.offset ≡ 0)
IsAgainst Short room s = next_refused s.batched s.places room ≡ Some Short
IsAgainst Memory room s = frame_refused s.batched.queue s.places room ≡ None
IsAgainst other room s = ⊥

-- A store was wound up; or there is no end yet, for this cause. Only what is of the end was done.
abbrev pub WindUpPost : Result (Unit {0}) Refusal → ℕ → StoreView → StoreView → Type 0
WindUpPost (Ok _) room a b = DoesLast a b × IsEnded b
WindUpPost (Err why) room a b = DoesLast a b × IsAgainst why room b

-- ---- its parts

-- all is decided that can be
abbrev pub DecidesAll : StoreView → StoreView → Type 0
DecidesAll a b = DoesLast a b × (b.places ≡ a.places) × (decided b.batched.queue.batches ≡ None)

-- the next frame is taken, maybe in the next segment, and waits for its word; or nothing waits for one
abbrev pub TakePost : Result Sealed Refusal → ℕ → StoreView → StoreView → Type 0
TakePost (Ok sealed) room a b = (m : StoreView) × (records : List RecordView) × DoesLast a m × Does m (Sends sealed records) b
    × (word_refused b.batched.queue sealed.frame ≡ None) × (a.places.segment ≤ b.places.segment)
TakePost (Err Nothing) room a b = DoesLast a b × (b.batched ≡ a.batched) × (next_records b.batched.queue ≡ [])
TakePost (Err why) room a b = DoesLast a b × IsAgainst why room b

-- a frame has failed that is to be cut off; or there is an end
abbrev pub FailPost : Result Bool Refusal → ℕ → StoreView → StoreView → Type 0
FailPost (Ok true) room a b = DoesLast a b × (any_failed b ≡ true) × (a.places.segment ≤ b.places.segment)
FailPost (Ok false) room a b = DoesLast a b × IsEnded b
FailPost (Err why) room a b = DoesLast a b × IsAgainst why room b

-- ---- what holds of a store that was wound up

-- A store led, each frame that failed is given up, and nothing was sent under the numbers of those that it has not taken. However it is
-- wound up, it was led.
abbrev pub WoundUpIsLed : Type 0
WoundUpIsLed = (payload_in : List ℕ → List ℕ) (w : World) (leadership gap : ℕ) (limits : Limits) (next : Next) (start : Entries)
    (cs : List Call) (a b : StoreView) → HasDone limits next start cs a → IsLeading payload_in w leadership gap next cs
    → ((batch : Batch) → Contains a.batched.queue.batches batch → is_failed batch.stage ≡ true → IsGivenUp w leadership batch.frame)
    → ((n : ℕ) → a.batched.queue.frame ≤ n → WasSent w (batch_of leadership n) → ⊥)
    → (ds : List Call) → Serves a ds b → AreLast ds → IsLed payload_in w leadership gap next (cs ++ ds)
