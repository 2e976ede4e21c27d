-- What is counted of a kernel, told on its trace but for the notes that it holds.
use Rattle.std.specs.Prelude.{◌≡◌, ℕ, zero, suc, ◌-◌, max, Bool, true, false, ◌&&◌, ◌||◌, not, ◌==◌, length, take, count_by, Option, Some}
use Rattle.std.specs.List.{list_any}
use Rattle.sk_record.specs.declared.status.Status.{Status}
use Rattle.sk_trace.specs.declared.event.Event.{Event}
use Rattle.sk_plain.specs.Replay.{is_made}
use Rattle.sk_kernel.specs.Kernel.{KernelView, record_at, undecided_at}
use Rattle.sk_kernel.specs.Notes.{CanHold}
use Rattle.sk_counts.specs.declared.counts.Counts.{Counts}

-- whether an event takes a step, which may be a guess's
abbrev pub is_step : Event → Bool
is_step (Event.Step pid input) = true
is_step (Event.Guess id pid input) = true
is_step event = false

-- whether it makes a guess
abbrev pub is_guess : Event → Bool
is_guess (Event.Guess id pid input) = true
is_guess event = false

-- whether it commits one
abbrev pub is_commit : Event → Bool
is_commit (Event.Commit id) = true
is_commit event = false

-- whether it fails one
abbrev pub is_failure : Event → Bool
is_failure (Event.Fail id) = true
is_failure event = false

-- whether it makes this guess
abbrev pub makes : ℕ → Event → Bool
makes g (Event.Guess id pid input) = id == g
makes g event = false

-- whether it decides this guess
abbrev pub decides : ℕ → Event → Bool
decides g (Event.Commit id) = id == g
decides g (Event.Fail id) = id == g
decides g event = false

-- whether a guess was made and not decided, and its step is not in the record any more
abbrev pub is_struck : KernelView → ℕ → Bool
is_struck k g = list_any (makes g) k.trace && not (list_any (decides g) k.trace || is_made (record_at k) g)

-- whether the status of a guess is that it was struck
abbrev pub is_struck_status : Option Status → Bool
is_struck_status (Some Status.Struck) = true
is_struck_status status = false

-- whether an event makes a guess that was struck later
abbrev pub makes_struck : KernelView → Event → Bool
makes_struck k (Event.Guess id pid input) = is_struck k id
makes_struck k event = false

-- how many guesses were undecided after the first n events
abbrev pub open_after : KernelView → ℕ → ℕ
open_after k n = length (undecided_at (record k { trace = take n k.trace }))

-- the most that were undecided at once, up to there
abbrev pub most_up_to : KernelView → ℕ → ℕ
most_up_to k zero = 0
most_up_to k (suc n) = max (most_up_to k n) (open_after k (suc n))

-- the guesses by what became of them; the steps that were taken, and those of them that the record has no more; the most undecided guesses;
-- and so many notes
abbrev pub counts_of : KernelView → ℕ → Counts
counts_of k notes = record {
  guesses = count_by is_guess k.trace;
  committed = count_by is_commit k.trace;
  failed = count_by is_failure k.trace;
  struck = count_by (makes_struck k) k.trace;
  steps = count_by is_step k.trace;
  taken_back = count_by is_step k.trace - length (record_at k);
  most_open = most_up_to k (length k.trace);
  notes = notes;
}

-- these are the counts of a kernel, with a number of notes that it can hold
abbrev pub AreCounts : KernelView → Counts → Type 0
AreCounts k c = (c ≡ counts_of k c.notes) × CanHold k c.notes
