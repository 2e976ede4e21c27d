-- What the frames of the log have: the logged commands, each where its batch was sent.
use Rattle.sk_durable.proofs.Names.{◌==◌, if◌then◌else◌, filter, Contains, has, Commit, Event, failed_in, kept, Batch}
use Rattle.sk_durable.proofs.Names.{is_failed, is_kept, is_refused, is_sent, is_taken, QueueView, RecordView}
use Rattle.sk_durable.proofs.Names.{log_text, Asked, Entry, Runs, StoreView, Call, carried, decided, frames}
use Rattle.sk_durable.proofs.Names.{is_logged, synced, Command}
use Rattle.std.specs.Prelude.{◌≡◌, ◌||◌, ◌+◌, ◌<◌, ◌≤◌, ℕ, true, List, [], ◌∷◌, ◌++◌, flat_map, length, map, Some}

-- ---- records, each with the number of its batch, and in frames with that of the frame before that

abbrev pub Marked : Type 0
Marked = ℕ × RecordView

abbrev pub Placed : Type 0
Placed = ℕ × Marked

abbrev pub marked : ℕ → List RecordView → List Marked
marked number records = map (λ x. (number, x)) records

abbrev pub in_frame : ℕ → List Marked → List Placed
in_frame frame xs = map (λ x. (frame, x)) xs

-- those of frames, from this number on
abbrev pub numbered : ℕ → List (List Marked) → List Placed
numbered frame [] = []
numbered frame (xs ∷ sent) = in_frame frame xs ++ numbered (frame + 1) sent

-- what a batch has in its frame, where it was sent and is not cut off
abbrev pub placed : Batch → List Placed
placed b = if is_taken b.stage then in_frame b.frame (marked b.number b.records) else []

-- what is to be sent
abbrev pub unsent : Batch → List Marked
unsent b = if is_kept b.stage then marked b.number b.records else []

abbrev pub next_marked : QueueView → List Marked
next_marked q = flat_map unsent q.batches ++ marked q.number q.records

-- ---- commands and their records

-- the record of a command: it depends on just what the command does, beside its batch, and on none behind that
pub record IsOf (r : Command) (x : Marked) : Type 0 where
  pub asked : Asked
  pub entry : r.entry ≡ Runs asked
  pub batch : asked.batch ≡ Some x.0
  pub bytes : x.1.bytes ≡ log_text asked.work
  pub rests : (g : ℕ) → has g r.rests ≡ (has g x.1.rests || (x.0 == g))
  pub below : (g : ℕ) → has g r.rests ≡ true → g ≤ x.0

abbrev pub AreOf : List Command → List Marked → Type 0
AreOf [] [] = Unit {0}
AreOf [] (x ∷ xs) = ⊥
AreOf (r ∷ rs) [] = ⊥
AreOf (r ∷ rs) (x ∷ xs) = IsOf r x × AreOf rs xs

-- a command depends on no guess behind the batch that logs it
abbrev pub IsBelow : Command → Type 0
IsBelow r = (asked : Asked) (n g : ℕ) → r.entry ≡ Runs asked → asked.batch ≡ Some n → has g r.rests ≡ true → g ≤ n

-- the batches that were cut off and are not decided yet
abbrev pub off : List Batch → List ℕ
off bs = map (λ b. b.number) (filter (λ b. is_refused b.stage) bs)

-- the logged commands, without those that depend on a batch that failed or was cut off
abbrev pub living : List Command → List ℕ → List Command
living commands gone = filter (λ r. is_logged r.entry) (kept gone commands)

-- ---- what holds

-- a record of a batch that was told as logged lies before all that is undecided
pub record IsBefore (q : QueueView) (y : Placed) : Type 0 where
  pub newest : y.1.0 < q.number
  pub number : (b : Batch) → Contains q.batches b → y.1.0 < b.number
  pub waits : (b : Batch) → Contains q.batches b → is_sent b.stage ≡ true → y.0 < b.frame
  pub failed : (b : Batch) → Contains q.batches b → is_failed b.stage ≡ true → y.0 < b.frame

-- after these commands and decisions, with these frames of the log, of which these were told as synced, and this queue
pub record HasFrames (first : ℕ) (commands : List Command) (decides : List (Event Entry))
    (log : List (List RecordView)) (told : List ℕ)
    (q : QueueView) : Type 0 where
  pub sent : List (List Marked)
  pub sent_are : map (map (λ x. x.1)) sent ≡ log
  pub next : q.frame ≡ first + length sent
  -- first what was told as logged, then what batches of the queue have
  pub done : List Placed
  pub stand : numbered first sent ≡ done ++ flat_map placed q.batches
  pub before : (y : Placed) → Contains done y → IsBefore q y
  -- it is synced, with all before it
  pub on_disk : (y : Placed) (n : ℕ) → Contains done y → first ≤ n → n ≤ y.0 → has n told ≡ true
  -- the logged commands are what the frames have, and what is to be sent
  pub same : AreOf (living commands (failed_in decides ++ off q.batches)) (flat_map (λ xs. xs) sent ++ next_marked q)
  pub below : (r : Command) → Contains commands r → IsBelow r
  -- what was told as logged is before all that is undecided
  pub settled : (n : ℕ) → Contains decides (Commit n) → (n < q.number)
      × ((b : Batch) → Contains q.batches b → n < b.number)

abbrev pub InFrames : ℕ → List Call → StoreView → Type 0
InFrames first cs s = HasFrames first (carried cs) (decided cs) (frames first cs) (synced cs) s.batched.queue
