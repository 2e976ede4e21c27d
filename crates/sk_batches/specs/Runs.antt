-- Calls of a queue, one after another, and what they come to.
use Rattle.std.specs.Prelude.{◌≡◌, ◌==◌, ◌+◌, ◌-◌, ◌<◌, ◌≤◌, ◌++◌, ◌∷◌, ℕ, Bool, true, nat_lt, List, [], length, drop, flat_map, count_by, Some, if◌then◌else◌}
use Rattle.sk_batches.specs.Base.{filter, list_any, Stage, Synced, Failed, Refused, Batch, Cut, NUMBER_LIMIT}
use Rattle.sk_batches.specs.Records.{RecordView, is_struck, kept, but_last}
use Rattle.sk_batches.specs.Queue.{QueueView, is_awaited, after_word, after_take, left, cut_due, after_cut, kept_records, next_records}
use Rattle.sk_batches.specs.Calls.{new_queue}

-- a call that was not refused
pub data Call : Type 0 where
  Appends : (added : RecordView) → Call
  Withdraws : Call
  Takes : Call
  Syncs : (frame : ℕ) → Call
  Fails : (frame : ℕ) → Call
  Decides : Call
  Cuts : (cut : Cut) → Call
  Stops : Call

-- what a call leaves of the queue
abbrev pub Happens : QueueView → Call → QueueView → Type 0
Happens q (Appends added) m = m ≡ record q { records = q.records ++ added ∷ [] }
Happens q Withdraws m = m ≡ record q { records = but_last q.records }
Happens q Takes m = (q.frame < NUMBER_LIMIT) × (m ≡ after_take q)
Happens q (Syncs frame) m = (is_awaited frame q ≡ true) × (m ≡ after_word frame Synced q)
Happens q (Fails frame) m = (is_awaited frame q ≡ true) × (m ≡ after_word frame Failed q)
Happens q Decides m = m ≡ record q { batches = left q.batches }
Happens q (Cuts cut) m = (cut_due q ≡ Some cut) × (m ≡ after_cut cut q)
Happens q Stops m = m ≡ record q { stopped = true }

-- what came of some calls: the frames of the log that the host said are synced, a cut among them, which takes the place of the
-- frames that it cut off; the numbers of the batches that were told as decided, one after another; and the records that were
-- appended, told as logged, refused, and taken back
pub record Story : Type 0 where
  pub synced : List ℕ
  pub decided : List ℕ
  pub appended : List RecordView
  pub logged : List RecordView
  pub refused : List RecordView
  pub withdrawn : List RecordView

abbrev pub no_story : Story
no_story = record { synced = []; decided = []; appended = []; logged = []; refused = []; withdrawn = [] }

-- the oldest batch is told as decided, where it is
abbrev pub with_oldest : Stage → Batch → Story → Story
with_oldest Synced b s = record s { decided = s.decided ++ b.number ∷ []; logged = s.logged ++ b.records }
with_oldest Refused b s = record s { decided = s.decided ++ b.number ∷ []; refused = s.refused ++ b.records }
with_oldest other b s = s

abbrev pub with_decided : List Batch → Story → Story
with_decided [] s = s
with_decided (b ∷ bs) s = with_oldest b.stage b s

-- the records that depend on what is cut off
abbrev pub struck : Cut → List RecordView → List RecordView
struck c rs = filter (λ r. is_struck c.first c.last r) rs

-- those of a batch behind the frame that failed
abbrev pub struck_of : Cut → Batch → List RecordView
struck_of c b = if nat_lt b.frame c.frame then [] else if b.frame == c.frame then [] else struck c b.records

abbrev pub synced_after : Cut → List ℕ → List ℕ
synced_after c synced = c.frame ∷ filter (λ frame. nat_lt frame c.frame) synced

abbrev pub story_after : QueueView → Call → Story → Story
story_after q (Appends added) s = record s { appended = s.appended ++ added ∷ [] }
story_after q Withdraws s = record s { withdrawn = s.withdrawn ++ drop (length q.records - 1) q.records }
story_after q (Syncs frame) s = record s { synced = frame ∷ s.synced }
story_after q Decides s = with_decided q.batches s
story_after q (Cuts cut) s = record s
    { synced = synced_after cut s.synced; refused = s.refused ++ (flat_map (struck_of cut) q.batches ++ struck cut q.records) }
story_after q other s = s

-- any calls, one after another
abbrev pub Runs : QueueView → Story → List Call → QueueView → Story → Type 0
Runs q s [] last told = (q ≡ last) × (s ≡ told)
Runs q s (c ∷ cs) last told = (m : QueueView) × Happens q c m × Runs m (story_after q c s) cs last told

-- ---- what holds after any calls of a new queue

-- the numbers rise, between these two
abbrev pub Rise : ℕ → List ℕ → ℕ → Type 0
Rise low [] high = low < high
Rise low (n ∷ ns) high = (low < n) × Rise n ns high

-- batches are decided in the order of their numbers, each once
abbrev pub DecidesInOrder : Type 0
DecidesInOrder = (most most_bytes frame : ℕ) (cs : List Call) (q : QueueView) (s : Story)
    → Runs (new_queue most most_bytes frame) no_story cs q s → Rise 0 s.decided q.number

abbrev pub has : ℕ → List ℕ → Bool
has n ns = list_any (λ m. m == n) ns

-- where the oldest batch is decided as logged, its frame and each frame of the log before it was told as synced
abbrev pub LogsWhatIsSynced : Type 0
LogsWhatIsSynced = (most most_bytes frame : ℕ) (cs : List Call) (q : QueueView) (s : Story) (b : Batch) (bs : List Batch) (n : ℕ)
    → Runs (new_queue most most_bytes frame) no_story cs q s → q.batches ≡ b ∷ bs → b.stage ≡ Synced
    → frame ≤ n → n ≤ b.frame → has n s.synced ≡ true

-- the records that are undecided
abbrev pub records_in : List Batch → List RecordView
records_in [] = []
records_in (b ∷ bs) = b.records ++ records_in bs

-- nothing is lost, and nothing comes twice: each record that was appended is logged, refused, taken back or undecided
abbrev pub LosesNothing : Type 0
LosesNothing = (most most_bytes frame : ℕ) (cs : List Call) (q : QueueView) (s : Story) (p : RecordView → Bool)
    → Runs (new_queue most most_bytes frame) no_story cs q s
    → count_by p s.appended ≡ count_by p s.logged + (count_by p s.refused + (count_by p s.withdrawn + (count_by p (records_in q.batches) + count_by p q.records)))

-- the records of a batch behind the frame that is cut off
abbrev pub behind_of : ℕ → Batch → List RecordView
behind_of frame b = if nat_lt b.frame frame then [] else if b.frame == frame then [] else b.records

-- a cut leaves for the next frame just the records behind what it cuts off that don't depend on it, in their order
abbrev pub KeepsTheRest : Type 0
KeepsTheRest = (c : Cut) (q : QueueView) → kept_records q.batches ≡ []
    → next_records (after_cut c q) ≡ kept c.first c.last (flat_map (behind_of c.frame) q.batches ++ q.records)

-- where a cut is due none is to be sent again
abbrev pub NoneIsKept : Type 0
NoneIsKept = (most most_bytes frame : ℕ) (cs : List Call) (q : QueueView) (s : Story) (c : Cut)
    → Runs (new_queue most most_bytes frame) no_story cs q s → cut_due q ≡ Some c → kept_records q.batches ≡ []
