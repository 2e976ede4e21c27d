-- A kernel whose guesses are batches of a queue, as its callers see it, and what its calls answer and leave.
use Rattle.std.specs.Prelude.{◌≡◌, ◌⊎◌, ◌&&◌, ◌==◌, ◌+◌, ◌*◌, ◌++◌, ℕ, Bool, true, false, not, nat_lt, nat_le, List, [], ◌∷◌, length, map, Option, Some, None, if◌then◌else◌, Result, Ok, Err}
use Rattle.sk_batched.specs.Base.{list_any, option_map, option_or, Vec, has, tags_at, none_drawn, look_at, log_at}
use Rattle.sk_batched.specs.Base.{bytes_cmp, Deed, Commits, FailsIn, Takes, Parts, undo_state_of, WholeStep}
use Rattle.sk_batched.specs.Base.{TellsUndone, Unchanged, byte_deed, ByteView, append_refused, queue_cause_of}
use Rattle.sk_batched.specs.Base.{new_queue, frame_refused, FramePost, PlacesView, QueueView, decided, left, Sealed}
use Rattle.sk_batched.specs.Base.{Queued, Outcome, Logged, Refused, MOST_IN_FLIGHT, Refusal, TooMany, Memory}
use Rattle.sk_batched.specs.Base.{batch_key, Decision}
use Rattle.sk_batches.specs.declared.refusal.Refusal.TheVariants as queued
use Rattle.sk_batched.specs.Refused.{cause_of, refusal_of, step_refused}

-- the kernel, the queue, and whether the guess of the open batch is drawn
pub record BatchedView (V O : Type 0) : Type 0 where
  pub kernel : ByteView V O
  pub queue : QueueView
  pub begun : Bool

-- no more frames in flight than may be
abbrev pub capped : ℕ → ℕ
capped most = if nat_lt MOST_IN_FLIGHT most then MOST_IN_FLIGHT else most

-- no key is there, and nothing has happened
pub record IsNew {V O : Type 0} (number most most_bytes frame : ℕ) (b : BatchedView V O) : Type 0 where
  pub look : (k : List ℕ) → look_at bytes_cmp b.kernel.parts.slots k ≡ None
  pub log : (k : List ℕ) → log_at bytes_cmp b.kernel.parts.slots k ≡ []
  pub guesses : b.kernel.parts.guesses ≡ none_drawn number (2 * capped most + 1)
  pub opens : b.kernel.parts.opens ≡ []
  pub said : b.kernel.parts.said ≡ []
  pub undone : b.kernel.undone ≡ []
  pub queue : b.queue ≡ new_queue (capped most) most_bytes frame
  pub begun : b.begun ≡ false

-- ---- steps

-- what draws the guess of a batch: it makes the batch's key absent
abbrev pub opening : {V O : Type 0} → ℕ → Deed (List ℕ) V O
opening number = record { looked = []; written = (batch_key number, None) ∷ []; said = None }

-- what a step of a batch did: it also looked at the batch's key
abbrev pub in_batch : {V O : Type 0} → ℕ → Deed (List ℕ) V O → Deed (List ℕ) V O
in_batch number d = record d { looked = d.looked ++ batch_key number ∷ [] }

-- whether something that it looks at or writes depends on a guess
abbrev pub is_touched : {V O : Type 0} → Parts (List ℕ) V O → Deed (List ℕ) V O → ℕ → Bool
is_touched m d g = list_any (λ k. has g (tags_at (undo_state_of bytes_cmp m) k)) (d.looked ++ map (λ w. w.0) d.written)

-- a step that was refused is as it was
pub record IsKept {V O : Type 0} (old new : WholeStep (Vec ℕ) V O) : Type 0 where
  pub looked : new.looked.items ≡ old.looked.items
  pub written : new.written.items ≡ old.written.items
  pub said : new.said ≡ old.said

-- a step of which nothing is left
pub record IsEmpty {V O : Type 0} (step : WholeStep (Vec ℕ) V O) : Type 0 where
  pub looked : step.looked.items ≡ []
  pub written : step.written.items ≡ []
  pub said : step.said ≡ None

-- ---- what calls leave

module _ {V O : Type 0} where
  -- the kernel is as it was, but that what the last failure took back may be told no more
  abbrev pub IsStill : ByteView V O → ByteView V O → Type 0
  IsStill old new = (new ≡ old) ⊎ Unchanged old new

  -- the guess of the open batch is drawn, where it was not
  abbrev pub Draws : Bool → ByteView V O → ℕ → ByteView V O → Type 0
  Draws true old number new = new ≡ old
  Draws false old number new = Takes bytes_cmp old.parts (opening number) (Some number) new.parts

  abbrev pub Begins : BatchedView V O → BatchedView V O → Type 0
  Begins old new = Draws old.begun old.kernel old.queue.number new.kernel × (new.queue ≡ old.queue) × (new.begun ≡ true)

  -- nothing has changed
  pub record Stays (old new : BatchedView V O) : Type 0 where
    pub kernel : IsStill old.kernel new.kernel
    pub queue : new.queue ≡ old.queue
    pub begun : new.begun ≡ old.begun

  -- nothing has changed, or just the guess of the open batch was drawn
  abbrev pub MayBegin : BatchedView V O → BatchedView V O → Type 0
  MayBegin old new = Stays old new ⊎ ((old.begun ≡ false) × Begins old new)

  -- after want of memory; after another refusal nothing has changed at all
  abbrev pub AfterRefusal : Refusal → BatchedView V O → BatchedView V O → Type 0
  AfterRefusal Memory old new = MayBegin old new
  AfterRefusal other old new = new ≡ old

  -- a step is taken that is not logged
  abbrev pub TakePost : Result (Unit {0}) Refusal → WholeStep (Vec ℕ) V O → WholeStep (Vec ℕ) V O → BatchedView V O → BatchedView V O → Type 0
  TakePost (Ok _) step after old new =
      (step_refused step ≡ None) × Takes bytes_cmp old.kernel.parts (byte_deed step) None new.kernel.parts × (new.queue ≡ old.queue) × (new.begun ≡ old.begun)
      × IsEmpty after
  TakePost (Err why) step after old new = (step_refused step ≡ cause_of why) × Stays old new × IsKept step after

  -- as many batches are undecided as may be, and the open one has no guess yet
  abbrev pub is_full : BatchedView V O → Bool
  is_full b = not b.begun && nat_le b.kernel.parts.guesses.limit (length b.kernel.parts.opens)

  -- the first cause against a step that is logged with so many bytes, or none
  abbrev pub log_refused : BatchedView V O → WholeStep (Vec ℕ) V O → ℕ → Option Refusal
  log_refused b step len =
      option_or (step_refused step) (option_or (option_map refusal_of (append_refused b.queue len)) (if is_full b then Some TooMany else None))

  -- the step is taken in the open batch, whose guess is drawn before
  pub record RunsInBatch (old : BatchedView V O) (d : Deed (List ℕ) V O) (new : BatchedView V O) : Type 0 where
    pub drawn : ByteView V O
    pub draws : Draws old.begun old.kernel old.queue.number drawn
    pub takes : Takes bytes_cmp drawn.parts (in_batch old.queue.number d) None new.kernel.parts
    pub queue : new.queue ≡ old.queue
    pub begun : new.begun ≡ true

  -- a record is added that depends on just the guesses, beside the open batch's, that the step touches
  pub record Appends (old : BatchedView V O) (d : Deed (List ℕ) V O) (bytes : List ℕ) (new : BatchedView V O) : Type 0 where
    pub rests : List ℕ
    pub exact : (g : ℕ) → has g rests ≡ (is_touched old.kernel.parts d g && not (g == old.queue.number))
    pub left : new ≡ record old { queue = record old.queue { records = old.queue.records ++ record { rests = rests; bytes = bytes } ∷ [] } }

  -- the step is taken in the open batch, whose guess is drawn before, and its record depends on just the guesses beside the batch's own that
  -- it touched before anything was done
  pub record Logs (old : BatchedView V O) (d : Deed (List ℕ) V O) (bytes : List ℕ) (new : BatchedView V O) : Type 0 where
    pub drawn : ByteView V O
    pub draws : Draws old.begun old.kernel old.queue.number drawn
    pub takes : Takes bytes_cmp drawn.parts (in_batch old.queue.number d) None new.kernel.parts
    pub rests : List ℕ
    pub exact : (g : ℕ) → has g rests ≡ (is_touched old.kernel.parts d g && not (g == old.queue.number))
    pub queue : new.queue ≡ record old.queue { records = old.queue.records ++ record { rests = rests; bytes = bytes } ∷ [] }
    pub begun : new.begun ≡ true

  abbrev pub LogPost : Result ℕ Refusal → WholeStep (Vec ℕ) V O → WholeStep (Vec ℕ) V O → List ℕ → BatchedView V O → BatchedView V O → Type 0
  LogPost (Ok number) step after bytes old new =
      (log_refused old step (length bytes) ≡ None) × (number ≡ old.queue.number) × Logs old (byte_deed step) bytes new × IsEmpty after
  LogPost (Err why) step after bytes old new = (log_refused old step (length bytes) ≡ cause_of why) × AfterRefusal why old new × IsKept step after

  -- ---- frames

  -- the first cause against the next frame, or none: what the queue and its places say, then that as many batches are undecided as may be
  abbrev pub next_refused : BatchedView V O → PlacesView → ℕ → Option Queued
  next_refused b p room = option_or (frame_refused b.queue p room) (if is_full b then Some queued.Busy else None)

  abbrev pub AfterNoFrame : Queued → BatchedView V O → BatchedView V O → Type 0
  AfterNoFrame queued.Memory old new = MayBegin old new
  AfterNoFrame other old new = new ≡ old

  -- the next frame stands at the front of the room, and each of its batches has its guess
  abbrev pub NextPost : Result Sealed Queued → BatchedView V O → PlacesView → List ℕ → BatchedView V O → PlacesView → List ℕ → Type 0
  NextPost (Ok sealed) old p room new p' filled =
      (next_refused old p (length room) ≡ None) × Draws old.begun old.kernel old.queue.number new.kernel × (new.begun ≡ false)
      × FramePost (Ok sealed) old.queue p room new.queue p' filled
  NextPost (Err why) old p room new p' filled =
      (next_refused old p (length room) ≡ queue_cause_of why) × AfterNoFrame why old new × (p' ≡ p) × (filled ≡ room)

  -- ---- decisions

  -- the oldest batch, where it is decided, and its guess with it, which struck no other; this takes no memory
  abbrev pub DecidePost : Option Outcome → BatchedView V O → BatchedView V O → Type 0
  DecidePost None old new = (decided old.queue.batches ≡ None) × (new ≡ old)
  DecidePost (Some (Logged n)) old new =
      (decided old.queue.batches ≡ Some (Decision.Logged n)) × Commits bytes_cmp old.kernel.parts n new.kernel.parts
      × (new.queue ≡ record old.queue { batches = left old.queue.batches }) × (new.begun ≡ old.begun)
  DecidePost (Some (Refused n keys)) old new =
      (decided old.queue.batches ≡ Some (Decision.Refused n)) × FailsIn bytes_cmp old.kernel.parts n new.kernel.parts
      × TellsUndone old.kernel.parts n keys 0 new.kernel.undone
      × (new.queue ≡ record old.queue { batches = left old.queue.batches }) × (new.begun ≡ old.begun)
