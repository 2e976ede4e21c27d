-- Any number of hosts beside an engine, move by move.
use Rattle.std.specs.Prelude.{◌≡◌, ◌⊎◌, ◌<◌, ◌≤◌, ℕ, nat_le, List, [], ◌∷◌, take, Option, Some, None, if◌then◌else◌}
use Rattle.std.specs.Int.{w64, from_be_bytes}
use Rattle.sk_engine.specs.declared.answer.BatchAnswer.{BatchAnswer}
use Rattle.sk_engine.specs.declared.answer.FenceAnswer.{FenceAnswer}
use Rattle.sk_engine.specs.declared.request.Told.TheVariants.{Synced, Lost, Serves}
use Rattle.sk_engine.specs.declared.request.Batch.{Batch}
use Rattle.sk_engine.specs.declared.request.Fence.{Fence}
use Rattle.sk_engine.specs.Told.{batch_told, fence_told}
use Rattle.sk_engine.specs.Engine.{Entries, EngineView, after_batch, batch_answer, after_fence, fence_answer, may_cut, after_cut}

-- the bytes that a leadership sent under a number
pub record Sent : Type 0 where
  pub batch : Batch
  pub value : List ℕ

-- a try of a batch that was carried out, and of a fence, with its answer, which may have reached its host or not
pub record BatchTry : Type 0 where
  pub batch : Batch
  pub value : List ℕ
  pub answer : BatchAnswer

pub record FenceTry : Type 0 where
  pub fence : Fence
  pub answer : FenceAnswer

-- An engine; what its snapshot stands for, under each number up to which it was cut; the leaderships that have read the log, with the
-- gap that they found; all that was sent; and all that was answered.
pub record World : Type 0 where
  pub engine : EngineView
  pub kept : Entries
  pub reads : List Fence
  pub sent : List Sent
  pub batches : List BatchTry
  pub fences : List FenceTry

-- nothing has happened
abbrev pub new_world : World
new_world = record
    { engine = record { leader = None; newest = 0; fence = 0; log = λ i. None; snap = 0 }; kept = λ i. None; reads = []; sent = []; batches = []; fences = [] }

abbrev pub Has : {A : Type 0} → A → List A → Type 0
Has x [] = ⊥
Has x (y ∷ ys) = (x ≡ y) ⊎ Has x ys

abbrev pub batch_of : ℕ → ℕ → Batch
batch_of leadership number = record { leadership = leadership; number = number }

abbrev pub fence_of : ℕ → ℕ → Fence
fence_of leadership gap = record { leadership = leadership; gap = gap }

-- the leadership that the bytes of a batch begin with
abbrev pub owner_of : List ℕ → ℕ
owner_of value = from_be_bytes w64 (take 8 value)

-- what the snapshot stands for, or the log has, under a number
abbrev pub whole : World → ℕ → Option (List ℕ)
whole w i = if nat_le i w.engine.snap then w.kept i else w.engine.log i

-- ---- what a host may have been told

-- its leadership serves from this number on
abbrev pub ServesFrom : World → ℕ → ℕ → Type 0
ServesFrom w leadership gap = (answer : FenceAnswer)
    × Has (record { fence = fence_of leadership gap; answer = answer }) w.fences × (fence_told (fence_of leadership gap) answer ≡ Serves)

-- a batch that it sent was told as synced, as lost
abbrev pub WasSynced : World → Batch → Type 0
WasSynced w b = (value : List ℕ) × (answer : BatchAnswer)
    × Has (record { batch = b; value = value; answer = answer }) w.batches × (batch_told b answer ≡ Synced b.number)

abbrev pub WasLost : World → Batch → Type 0
WasLost w b = (value : List ℕ) × (answer : BatchAnswer)
    × Has (record { batch = b; value = value; answer = answer }) w.batches × (batch_told b answer ≡ Lost b.number)

-- A leadership has decided all up to this number: what it found as it began, and from the gap on what was told as synced.
abbrev pub HasDecided : World → ℕ → ℕ → ℕ → Type 0
HasDecided w leadership gap last = ServesFrom w leadership gap
    × ((i : ℕ) → gap ≤ i → i ≤ last → WasSynced w (batch_of leadership i))

-- ---- moves

pub data Move : Type 0 where
  -- a new leadership begins, where there is no leader
  Leads : (leadership : ℕ) → Move
  -- the leadership that there is ends
  Ends : Move
  -- a host reads the log up to the first gap, as its leadership begins
  Reads : (leadership gap : ℕ) → Move
  -- a try of a fence is carried out
  Fences : (fence : Fence) → Move
  -- a host sends a batch, for the first time or again
  Sends : (batch : Batch) → (value : List ℕ) → Move
  -- a try of a batch that was sent is carried out, at whatever later moment
  Tries : (batch : Batch) → (value : List ℕ) → Move
  -- a try of a cut is carried out
  Cuts : (leadership gap last : ℕ) → Move

-- the first number behind the cut under which nothing stands
pub record IsGap (e : EngineView) (gap : ℕ) : Type 0 where
  pub behind : e.snap < gap
  pub absent : e.log gap ≡ None
  pub before : (i : ℕ) → e.snap < i → i < gap → (value : List ℕ) × (e.log i ≡ Some value)

-- A batch may be sent by a leadership that serves, from its gap on; its bytes begin with the leadership; and under one number there are
-- always the same bytes.
pub record MaySend (w : World) (b : Batch) (value : List ℕ) : Type 0 where
  pub gap : ℕ
  pub serves : ServesFrom w b.leadership gap
  pub behind : gap ≤ b.number
  pub own : owner_of value ≡ b.leadership
  pub same : (other : List ℕ) → Has (record { batch = b; value = other }) w.sent → other ≡ value

-- what the snapshot stands for behind a cut
abbrev pub kept_by : World → ℕ → ℕ → Entries
kept_by w leadership last = if may_cut w.engine leadership last then (λ i. if nat_le i last then whole w i else w.kept i) else w.kept

-- what a move needs
abbrev pub Needs : World → Move → Type 0
Needs w (Leads leadership) = (w.engine.leader ≡ None) × (w.engine.newest < leadership)
Needs w Ends = Unit {0}
Needs w (Reads leadership gap) = (leadership ≤ w.engine.newest) × ((other : ℕ) → Has (fence_of leadership other) w.reads → ⊥) × IsGap w.engine gap
Needs w (Fences f) = Has f w.reads
Needs w (Sends b value) = MaySend w b value
Needs w (Tries b value) = Has (record { batch = b; value = value }) w.sent
Needs w (Cuts leadership gap last) = HasDecided w leadership gap last

-- what a move leaves
abbrev pub after_move : World → Move → World
after_move w (Leads leadership) = record w { engine = record w.engine { leader = Some leadership; newest = leadership } }
after_move w Ends = record w { engine = record w.engine { leader = None } }
after_move w (Reads leadership gap) = record w { reads = fence_of leadership gap ∷ w.reads }
after_move w (Fences f) = record w { engine = after_fence w.engine f; fences = record { fence = f; answer = fence_answer w.engine f } ∷ w.fences }
after_move w (Sends b value) = record w { sent = record { batch = b; value = value } ∷ w.sent }
after_move w (Tries b value) = record w {
  engine = after_batch w.engine b value;
  batches = record { batch = b; value = value; answer = batch_answer w.engine b value } ∷ w.batches;
}
after_move w (Cuts leadership gap last) = record w { engine = after_cut w.engine leadership last; kept = kept_by w leadership last }

abbrev pub Happens : World → Move → World → Type 0
Happens w c m = Needs w c × (m ≡ after_move w c)

abbrev pub Runs : World → List Move → World → Type 0
Runs w [] last = w ≡ last
Runs w (c ∷ cs) last = (m : World) × Happens w c m × Runs m cs last
