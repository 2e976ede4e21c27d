-- A store that one leadership serves, and that is wound up once the leadership is over.
use Rattle.std.specs.Prelude.{◌≡◌, ◌⊎◌, ◌-◌, ◌<◌, ◌≤◌, ℕ, true, List, [], ◌∷◌, ◌++◌, Some, slice_get}
use Rattle.sk_led.specs.Base.{has, Synced, payload, RecordView, Next, Call, Cuts, Learns, frames, synced, batch_of}
use Rattle.sk_led.specs.Base.{Has, ServesFrom, WasLost, WasSynced, World, WasSent}

-- no cut was made
abbrev pub AreUncut : List Call → Type 0
AreUncut [] = Unit {0}
AreUncut (Cuts cut ∷ cs) = ⊥
AreUncut (c ∷ cs) = AreUncut cs

-- A store that did this has its log in an engine. Its leadership serves; what it put before the first frame was told as synced; what it sent
-- under the number of a frame has the payload of that frame; and the store was told as synced only what the engine told.
pub record IsLeading (payload_in : List ℕ → List ℕ) (w : World) (leadership gap : ℕ) (next : Next) (cs : List Call) : Type 0 where
  pub serves : ServesFrom w leadership gap
  pub from : gap ≤ next.frame
  pub head : (n : ℕ) → gap ≤ n → n < next.frame → WasSynced w (batch_of leadership n)
  pub sent : (n : ℕ) (value : List ℕ) → next.frame ≤ n → Has (record { batch = batch_of leadership n; value = value }) w.sent
      → (records : List RecordView) × (slice_get (frames next.frame cs) (n - next.frame) ≡ Some records) × (payload_in value ≡ payload records)
  pub told : (n : ℕ) → has n (synced cs) ≡ true → WasSynced w (batch_of leadership n)
  pub uncut : AreUncut cs

-- ---- the leadership is over

-- no frame is told as synced any more
abbrev pub NoneSynced : List Call → Type 0
NoneSynced [] = Unit {0}
NoneSynced (Learns frame Synced ∷ cs) = ⊥
NoneSynced (c ∷ cs) = NoneSynced cs

-- a batch that the leadership's host was told as lost, or never sent
abbrev pub IsGivenUp : World → ℕ → ℕ → Type 0
IsGivenUp w leadership number = WasLost w (batch_of leadership number) ⊎ (WasSent w (batch_of leadership number) → ⊥)

-- Nothing more was done; or the first frame that is given up was cut off, and from then on none is told as synced.
abbrev pub IsWoundUp : World → ℕ → List Call → Type 0
IsWoundUp w leadership [] = Unit {0}
IsWoundUp w leadership (Cuts cut ∷ cs) = IsGivenUp w leadership cut.frame × NoneSynced cs
IsWoundUp w leadership (c ∷ cs) = ⊥

-- A store did the first of these calls with its log in the engine, and the rest once its leadership was over.
pub record IsLed (payload_in : List ℕ → List ℕ) (w : World) (leadership gap : ℕ) (next : Next) (cs : List Call) : Type 0 where
  pub leading : List Call
  pub ending : List Call
  pub at : cs ≡ leading ++ ending
  pub leads : IsLeading payload_in w leadership gap next leading
  pub ends : IsWoundUp w leadership ending
