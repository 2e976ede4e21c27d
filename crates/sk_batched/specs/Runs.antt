-- Calls one after another, and what the kernel inside is told: steps, guesses, commits and failures, each of which is an event of one trace.
use Rattle.std.specs.Prelude.{◌≡◌, ◌+◌, ◌↔◌, ℕ, Bool, true, false, List, [], ◌∷◌, ◌++◌, map, Option, Some, None, Ok}
use Rattle.sk_batched.specs.Base.{list_any, Contains, empty, Step, Ask, Refuse, Done, perform, System, Taken}
use Rattle.sk_batched.specs.Base.{Commit, Fail, IsPlainRun, Status, Committed, Failed, AreStatuses, look_at, bytes_cmp}
use Rattle.sk_batched.specs.Base.{Deed, effect_of, Told, told_more, with_told, Commits, FailsIn, Takes, KernelCall}
use Rattle.sk_batched.specs.Base.{Does, Tells, events_of, TakesOut, machine_of, QueueView, after_take, after_word}
use Rattle.sk_batched.specs.Base.{cut_due, after_cut, decided, left, Stage, Cut, Decision, batch_key, is_reserved}
use Rattle.sk_batches.specs.declared.queue.Decision.TheVariants.{Logged, Refused}
use Rattle.sk_batched.specs.Batched.{is_full, Begins, BatchedView, Draws, IsNew, Logs, Stays}

-- ---- the steps that the kernel takes

-- one that draws the guess of a batch, one of a caller that is not logged, and one of a caller in a batch
pub data BatchStep (N : Type 0) : Type 0 where
  Opens : (number : ℕ) → BatchStep N
  Plain : (entry : N) → BatchStep N
  InBatch : (number : ℕ) → (entry : N) → BatchStep N

-- a step that looks at one key more, at last
abbrev pub looking_at : {K V W F : Type 0} → K → Step K V W F → Step K V W F
looking_at k (Ask q next) = Ask q (λ v. looking_at k (next v))
looking_at k (Refuse why) = Refuse why
looking_at k (Done written said) = Ask k (λ v. Done written said)

module _ {V O F N : Type 0} (own : System (List ℕ) V (ℕ × O) F N) where
  abbrev pub act_of : BatchStep N → Step (List ℕ) V (ℕ × O) F
  act_of (Opens number) = Done ((batch_key number, None) ∷ []) None
  act_of (Plain n) = own.act n
  act_of (InBatch number n) = looking_at (batch_key number) (own.act n)

  abbrev pub mark_of : BatchStep N → Option ℕ
  mark_of (Opens number) = Some number
  mark_of other = None

  -- a caller's step function, with batches
  abbrev pub in_batches : System (List ℕ) V (ℕ × O) F (BatchStep N)
  in_batches = record { order = bytes_cmp; act = act_of; mark = mark_of; goes_to = own.goes_to }

-- ---- calls

-- a call that was not refused; one that was, after which nothing is seen to have changed, or, without memory, just the guess of the
-- open batch is drawn
pub data Call (N O : Type 0) : Type 0 where
  Steps : (entry : N) → Call N O
  LogsStep : (entry : N) → (bytes : List ℕ) → Call N O
  IsRefused : Call N O
  DrawsGuess : Call N O
  Sends : Call N O
  Hears : (frame : ℕ) → (stage : Stage) → Call N O
  Cuts : (cut : Cut) → Call N O
  Stops : Call N O
  Decides : (decision : Decision) → Call N O
  LetsOut : (channel : ℕ) → (output : O) → Call N O

-- what a call leaves of the queue, where it is about the queue alone
abbrev pub Heard : {N O : Type 0} → Call N O → QueueView → QueueView → Type 0
Heard (Hears frame stage) q r = r ≡ after_word frame stage q
Heard (Cuts cut) q r = (cut_due q ≡ Some cut) × (r ≡ after_cut cut q)
Heard Stops q r = r ≡ record q { stopped = true }
Heard other q r = ⊥

module _ {V O F N : Type 0} (own : System (List ℕ) V (ℕ × O) F N) where
  -- what the step function does on the values that are there is handed in, and names no key as those of batches are
  pub record HandsIn (a : BatchedView V O) (n : N) (d : Deed (List ℕ) V O) : Type 0 where
    pub honest : perform (look_at bytes_cmp a.kernel.parts.slots) (own.act n) ≡ Ok (effect_of (look_at bytes_cmp a.kernel.parts.slots) d)
    pub plain : list_any is_reserved (d.looked ++ map (λ w. w.0) d.written) ≡ false

  -- a decision, of the oldest batch and of its guess
  abbrev pub Settles : Decision → BatchedView V O → BatchedView V O → Type 0
  Settles (Logged n) a b = Commits bytes_cmp a.kernel.parts n b.kernel.parts
  Settles (Refused n) a b = FailsIn bytes_cmp a.kernel.parts n b.kernel.parts

  abbrev pub Happens : BatchedView V O → Call N O → BatchedView V O → Type 0
  Happens a (Steps n) b = (d : Deed (List ℕ) V O) × HandsIn a n d × Takes bytes_cmp a.kernel.parts d None b.kernel.parts × (b.queue ≡ a.queue) × (b.begun ≡ a.begun)
  Happens a (LogsStep n bytes) b = (d : Deed (List ℕ) V O) × HandsIn a n d × (is_full a ≡ false) × Logs a d bytes b
  Happens a IsRefused b = Stays a b
  Happens a DrawsGuess b = (is_full a ≡ false) × Begins a b
  Happens a Sends b = (is_full a ≡ false) × Draws a.begun a.kernel a.queue.number b.kernel × (b.queue ≡ after_take a.queue) × (b.begun ≡ false)
  Happens a (Decides d) b = (decided a.queue.batches ≡ Some d) × Settles d a b × (b.queue ≡ record a.queue { batches = left a.queue.batches }) × (b.begun ≡ a.begun)
  Happens a (LetsOut t output) b = TakesOut a.kernel.parts t output b.kernel.parts × (b.queue ≡ a.queue) × (b.begun ≡ a.begun)
  Happens a heard b = Heard heard a.queue b.queue × (b.kernel ≡ a.kernel) × (b.begun ≡ a.begun)

  -- any calls, one after another, and what was let out by then
  abbrev pub told_after : Call N O → Told O → Told O
  told_after (LetsOut t output) told = told_more t output told
  told_after other told = told

  abbrev pub Runs : Told O → BatchedView V O → List (Call N O) → Told O → BatchedView V O → Type 0
  Runs told a [] last b = (told ≡ last) × (a ≡ b)
  Runs told a (c ∷ cs) last b = (m : BatchedView V O) × Happens a c m × Runs (told_after c told) m cs last b

-- ---- what the kernel inside is told

-- the guess of the open batch is drawn before, where it was not
abbrev pub opens_first : {N O : Type 0} → Bool → ℕ → List (KernelCall (BatchStep N) O) → List (KernelCall (BatchStep N) O)
opens_first true number cs = cs
opens_first false number cs = Does (Taken (Opens number)) ∷ cs

abbrev pub settled_by : {N O : Type 0} → Decision → KernelCall (BatchStep N) O
settled_by (Logged n) = Does (Commit n)
settled_by (Refused n) = Does (Fail n)

-- by whether the guess of the open batch is drawn, and its number
abbrev pub kernel_calls : {N O : Type 0} → Bool → ℕ → List (Call N O) → List (KernelCall (BatchStep N) O)
kernel_calls begun number [] = []
kernel_calls begun number (Steps n ∷ cs) = Does (Taken (Plain n)) ∷ kernel_calls begun number cs
kernel_calls begun number (LogsStep n bytes ∷ cs) = opens_first begun number (Does (Taken (InBatch number n)) ∷ kernel_calls true number cs)
kernel_calls begun number (DrawsGuess ∷ cs) = opens_first begun number (kernel_calls true number cs)
kernel_calls begun number (Sends ∷ cs) = opens_first begun number (kernel_calls false (number + 1) cs)
kernel_calls begun number (Decides d ∷ cs) = settled_by d ∷ kernel_calls begun number cs
kernel_calls begun number (LetsOut t output ∷ cs) = Tells t output ∷ kernel_calls begun number cs
kernel_calls begun number (heard ∷ cs) = kernel_calls begun number cs

module _ {V O F N : Type 0} (own : System (List ℕ) V (ℕ × O) F N) where
  -- the trace of what the kernel inside was told since nothing had happened, by which all is as in a plain run
  pub record IsPlainInside (cs : List (Call N O)) (told : Told O) (b : BatchedView V O) : Type 0 where
    pub status : ℕ → Option Status
    pub agrees : AreStatuses b.kernel.parts.guesses b.kernel.parts.opens status
    pub plain : IsPlainRun (in_batches own) empty (events_of (kernel_calls false 1 cs)) (with_told told (machine_of bytes_cmp b.kernel.parts status))
    -- a guess is committed just where its batch was told as logged, and has failed just where it was told as refused
    pub committed : (n : ℕ) → (status n ≡ Some Committed) ↔ Contains cs (Decides (Logged n))
    pub failed : (n : ℕ) → (status n ≡ Some Failed) ↔ Contains cs (Decides (Refused n))

  -- after any calls values, tags, open guesses and outputs are those of the plain run of the steps that depend on no refused batch
  abbrev pub BatchesAsPlain : Type 0
  BatchesAsPlain =
      ((w : ℕ × O) → own.goes_to w ≡ w.0) → (number most most_bytes frame : ℕ) (a b : BatchedView V O) (cs : List (Call N O)) (told : Told O)
      → IsNew number most most_bytes frame a → Runs own (λ t. []) a cs told b → IsPlainInside cs told b
