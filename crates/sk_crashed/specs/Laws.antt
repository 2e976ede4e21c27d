-- What is read of a disk after a crash.
use Rattle.std.specs.Prelude.{◌≡◌, ◌⊎◌, ◌+◌, ◌<◌, ℕ, List, [], ◌∷◌, ◌++◌, length, None}
use Rattle.sk_recovered.specs.Crash.{NotTold}
use Rattle.sk_recovered.specs.Segments.{least, lower}
use Rattle.sk_log.specs.Log.{log, IsLog}
use Rattle.sk_batches.specs.Records.{payload, RecordView}
use Rattle.sk_batches.specs.declared.frames.Sealed.{Sealed}
use Rattle.sk_plain_store.specs.Plain.{Entries}
use Rattle.sk_recovered.specs.declared.heads.Head.{Head}
use Rattle.sk_recovered.specs.declared.recovered.Found.{Found}
use Rattle.sk_recovered.specs.Recovered.{IsFound}
use Rattle.sk_durable.specs.declared.limits.Limits.{Limits}
use Rattle.sk_durable.specs.declared.store.Next.{Next}
use Rattle.sk_durable.specs.Calls.{Call, Does, Sends}
use Rattle.sk_durable.specs.Laws.{AreSynced, HasDone, IsRecovered}
use Rattle.sk_durable.specs.Store.{StoreView}
use Rattle.sk_crashed.specs.Disk.{AreAdded, IsLeft, Stored}
use Rattle.sk_crashed.specs.Written.{begun, end_of, now_in, Written}

-- The first frame stands at the front of its segment, or behind a head there.
abbrev pub IsFront : Next → Type 0
IsFront next = (next.offset ≡ 0) ⊎ ((next.offset ≡ 24) × (0 < next.frame))

-- What a crash leaves of a store that did this, behind that start: no frame says no works; no damage is told, where none of the frames is known
-- as synced but those of which the host said so, one after another from the first on, and no more was dropped than may have been in flight; and
-- it is what the first of the logged commands leave, with all that a batch logs which was told as logged.
pub record IsLeftOf (start : Entries) (next : Next) (cs : List Call) (s : StoreView) (found : Found) : Type 0 where
  pub undamaged : found.damage ≡ None
  pub untold : (count : ℕ) → AreSynced next.frame count cs → NotTold (next.frame + count) found
  pub recovered : IsRecovered start cs s found.store

-- What is found in the segments of a store is such, at whatever moment the crash comes.
abbrev pub DisksAreRecovered : Type 0
DisksAreRecovered = (limits : Limits) (next : Next) (start : Entries) (cs : List Call) (s : StoreView) → HasDone limits next start cs s
    → IsFront next → (disk : List Stored) (heads : List Head) (bytes : List (List ℕ)) (left : ℕ) (found : Found)
    → IsLeft next cs s disk → AreAdded [] disk heads bytes → IsFound start (begun next).first heads bytes left found
    → IsLeftOf start next cs s found

-- ---- where frames are written

-- The next frame stands behind those that were written in this segment, and has the next number.
pub record IsBehind (w : Written) (s : StoreView) : Type 0 where
  pub segment : s.places.segment ≡ w.segment
  pub offset : s.places.offset ≡ length (log w.segment w.first w.payloads)
  pub number : s.batched.queue.frame ≡ end_of w

-- so after all that a store did
abbrev pub PlacesAreBehind : Type 0
PlacesAreBehind = (limits : Limits) (next : Next) (start : Entries) (cs : List Call) (s : StoreView) → HasDone limits next start cs s
    → IsFront next → IsBehind (now_in (begun next) cs) s

-- Each frame that is taken is to be written just there.
abbrev pub FramesAreBehind : Type 0
FramesAreBehind = (limits : Limits) (next : Next) (start : Entries) (cs : List Call) (s t : StoreView) (sealed : Sealed) (records : List RecordView)
    → HasDone limits next start cs s → IsFront next → Does s (Sends sealed records) t
    → let w = now_in (begun next) cs in
    sealed ≡ record {
      frame = end_of w;
      segment = w.segment;
      offset = length (log w.segment w.first w.payloads);
      len = 24 + length (payload records);
    }

-- ---- one life after another

-- Of each of these segments the same frames are read as were read before.
abbrev pub AreKept : List Head → List (List ℕ) → List (List ℕ) → Type 0
AreKept [] [] [] = Unit {0}
AreKept (h ∷ heads) (old ∷ bytes) (new ∷ again) =
    ((payloads : List (List ℕ)) → IsLog h.segment h.first payloads old → IsLog h.segment h.first payloads new) × AreKept heads bytes again
AreKept heads bytes again = ⊥

-- A store was found in some segments, and goes on behind a head with the next number, in new ones. Where the earlier segments are kept, a
-- crash leaves of it what it leaves of one that began with that store.
abbrev pub LivesAreRecovered : Type 0
LivesAreRecovered = (base : Entries) (first dropped : ℕ) (heads : List Head) (bytes again : List (List ℕ)) (before : Found)
    → IsFound base first heads bytes dropped before → before.damage ≡ None → AreKept heads bytes again
    → (limits : Limits) (next : Next) (cs : List Call) (s : StoreView) → HasDone limits next before.store cs s
    → IsFront next → (begun next).first ≡ before.number
    → (disk : List Stored) (all : List Head) (more : List (List ℕ)) (left : ℕ) (found : Found)
    → IsLeft next cs s disk → AreAdded heads disk all more → IsFound base first all (again ++ more) left found
    → IsLeftOf before.store next cs s found

-- ---- snapshots

-- A snapshot was made of what was found in the first segments of a log, undamaged, which had these heads and some others then; no segment that was
-- begun since goes on from a frame that it stands for.
pub record StandsFor (base : Entries) (first : ℕ) (heads others newer : List Head) (bytes : List (List ℕ)) (made : Found) : Type 0 where
  pub dropped : ℕ
  pub found : IsFound base first (heads ++ others) bytes dropped made
  pub whole : length bytes ≡ length heads
  pub undamaged : made.damage ≡ None
  pub behind : lower made.number (least newer) ≡ made.number

-- What is found of it and the later segments is what is found of all.
abbrev pub SnapshotsStandFor : Type 0
SnapshotsStandFor = (base : Entries) (first left : ℕ) (heads others newer : List Head) (bytes later : List (List ℕ)) (made found : Found)
    → StandsFor base first heads others newer bytes made → IsFound made.store made.number (others ++ newer) later left found
    → (all : Found) × IsFound base first ((heads ++ others) ++ newer) (bytes ++ later) left all
    × (all.store ≡ found.store) × (all.number ≡ found.number) × (all.damage ≡ found.damage)

-- A store goes on as above, and a snapshot was made that stands for the first of all segments. What a crash leaves is found of it and the later ones.
abbrev pub SnapshotsAreRecovered : Type 0
SnapshotsAreRecovered = (base : Entries) (first dropped : ℕ) (heads : List Head) (bytes again : List (List ℕ)) (before : Found)
    → IsFound base first heads bytes dropped before → before.damage ≡ None
    → AreKept heads bytes again → (limits : Limits) (next : Next) (cs : List Call) (s : StoreView) → HasDone limits next before.store cs s
    → (begun next).first ≡ before.number → IsFront next
    → (disk : List Stored) (all : List Head) (more : List (List ℕ)) → IsLeft next cs s disk → AreAdded heads disk all more
    → (front others newer : List Head) (old later : List (List ℕ)) (left : ℕ) (made found : Found)
    → all ≡ (front ++ others) ++ newer → again ++ more ≡ old ++ later → StandsFor base first front others newer old made
    → IsFound made.store made.number (others ++ newer) later left found → IsLeftOf before.store next cs s found
