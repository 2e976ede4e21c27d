-- All that a store did, told to its queue.
use Rattle.sk_durable.proofs.Names.{arith, ◌≡◌, ℕ, ◌<◌, ◌≤◌, Bool, true, false, List, [], ◌∷◌, ◌++◌, length, Option}
use Rattle.sk_durable.proofs.Names.{Some, None, inl, inr, refl, ◌∙◌, ap, subst, ◌==◌, nat_le, nat_lt, if◌then◌else◌}
use Rattle.sk_durable.proofs.Names.{option_or, leb-false, or_parts, NUMBER_LIMIT, Synced, Failed, Why, has_no_number}
use Rattle.sk_durable.proofs.Names.{is_busy, take_refused, frame_refused, is_awaited, next_records}
use Rattle.sk_durable.proofs.Names.{QueueView, Batch, Cut, new_queue, AreDense, IsRange, cut_due, no_story}
use Rattle.sk_durable.proofs.Names.{cuts_a_range, frames_are_dense, decided_synced, logs_what_is_synced, payload}
use Rattle.sk_durable.proofs.Names.{RecordView, story_after, Story, Logged, Work, log_text, may_write_some, Asked}
use Rattle.sk_durable.proofs.Names.{NotDone, Asker, Batches, IsNotDone, MayDraw, TakenIn, StoreView, Call, Connects}
use Rattle.sk_durable.proofs.Names.{HangsUp, Frees, Hears, Carries, Declines, Tells, Drops, Refuses, Hands, Draws}
use Rattle.sk_durable.proofs.Names.{Sends, Turns, Learns, Cuts, Stops, Decides, Rests, Does, Serves, synced}
use Rattle.sk_durable.proofs.Names.{synced_by, synced_from, HasDone, Limits, Next, Entries, capped, non_zero_u16_get}
use Rattle.std.proofs.lemmas.Bool.Decides.{nat_tests}
use Rattle.std.specs.Prelude.{◌-◌}
use Rattle.sk_batches.specs.declared.refusal.Refusal.TheVariants as why
use Rattle.sk_batches.specs.Runs.{has, Runs}
use Rattle.sk_batches.specs.Runs as queues
use Rattle.sk_batched.specs.declared.batched.Outcome.TheVariants.{Refused}
use Rattle.sk_durable.specs.declared.refusal.NotDone.TheVariants as undone

-- some calls of the queue lead to that of a store, with a story of which these frames were told as synced
pub record Queued (q : QueueView) (story : Story) (synced : List ℕ) (s : StoreView) : Type 0 where
  pub calls : List queues.Call
  pub last : Story
  pub runs : Runs q story calls s.batched.queue last
  pub synced_are : last.synced ≡ synced

-- one call before others
one_first : (q m : QueueView) (story : Story) (c : queues.Call) (synced : List ℕ) (s : StoreView) → queues.Happens q c m
    → Queued m (story_after q c story) synced s → Queued q story synced s
one_first q m story c synced s happens rest =
    record { calls = c ∷ rest.calls; last = rest.last; runs = (m, happens, rest.runs); synced_are = rest.synced_are }

-- why no frame is taken
no_frame_why : (stopped none busy numberless short : Bool)
    → (if stopped then Some why.Stopped else if none then Some why.Nothing else if busy then Some why.Busy
    else if numberless then Some why.NoNumber else if short then Some why.Short else None) ≡ None
    → numberless ≡ false
no_frame_why false false false false short is = refl
no_frame_why stopped none busy numberless short is = cc

pub or_none_first : (o p : Option Why) → option_or o p ≡ None → o ≡ None
or_none_first None p is = refl
or_none_first (Some w) p is = cc

-- a frame that is taken has a number
numbered : (q : QueueView) (room : ℕ) → take_refused q room ≡ None → q.frame < NUMBER_LIMIT
numbered q room none =
    let small = no_frame_why q.stopped (length (next_records q) == 0) (is_busy q) (has_no_number q)
    (nat_lt room (length (payload (next_records q)))) none in
    leb-false NUMBER_LIMIT q.frame (or_parts (nat_le NUMBER_LIMIT q.number) (nat_le NUMBER_LIMIT q.frame) small).1

-- a frame of which something is said was sent
awaited : (stopped here : Bool)
    → (if stopped then Some why.Stopped else if here then None else Some why.Unknown) ≡ None → here ≡ true
awaited true here is = cc
awaited false true is = refl
awaited false false is = cc

pub draws_same : (b c : Batches) → MayDraw b c → c.queue ≡ b.queue
draws_same b c (inl stays) = stays.queue
draws_same b c (inr draws) = draws.1.1

pub not_done_same : (why : NotDone) (b : Batches) (asker : Asker) (work : Work) (c : Batches)
    → IsNotDone why b asker work c → c.queue ≡ b.queue
not_done_same undone.Memory b asker work c draws = draws_same b c draws
not_done_same other b asker work c (known, knows, against, stays) = stays.queue

-- from one store to the next
module _ (a m : StoreView) (story : Story) (synced : List ℕ) (s : StoreView) where
  abbrev q : QueueView
  q = a.batched.queue

  stays : m.batched.queue ≡ q → ((next : Story) → next.synced ≡ story.synced → Queued m.batched.queue next synced s)
      → Queued q story synced s
  stays is rest = subst (λ p. Queued p story synced s) is (rest story refl)

  goes : (c : queues.Call) → queues.Happens q c m.batched.queue → (story_after q c story).synced ≡ story.synced
      → ((next : Story) → next.synced ≡ story.synced → Queued m.batched.queue next synced s) → Queued q story synced s
  goes c happens same rest = one_first q m.batched.queue story c synced s happens (rest (story_after q c story) same)

  -- a record is appended where work is logged
  takes : (w : Bool) (b : Batches) (asked : Asked) → b.queue ≡ q → TakenIn w b asked m.batched
      → ((next : Story) → next.synced ≡ story.synced → Queued m.batched.queue next synced s) → Queued q story synced s
  takes true b asked is (room, logs) rest =
      let added : RecordView = record { rests = logs.rests; bytes = log_text asked.work } in
      goes (queues.Appends added)
      (logs.queue ∙ ap (λ (p : QueueView). record p { records = p.records ++ added ∷ [] }) is) refl rest
  takes false b asked is (taken, queue, begun) rest = stays (queue ∙ is) rest

-- what comes then, whatever story there is, with these frames told as synced
abbrev Later : StoreView → List ℕ → List Call → StoreView → Type 0
Later m synced cs s = (other : Story) → other.synced ≡ synced → Queued m.batched.queue other (synced_from synced cs) s

next : (a m : StoreView) (story : Story) (c : Call) (cs : List Call) (s : StoreView) → Does a c m
    → ((synced : List ℕ) → Later m synced cs s)
    → Queued a.batched.queue story (synced_from (synced_by c story.synced) cs) s
next a m story (Connects t) cs s (channel, past, most, connects, is) rest = stays a m story _ s
    (ap (λ (b : Batches). b.queue) is.1) (rest story.synced)
next a m story (HangsUp t) cs s (hangs, is) rest = stays a m story _ s (ap (λ (b : Batches). b.queue) is.1)
    (rest story.synced)
next a m story (Frees t) cs s (none, frees, is) rest = stays a m story _ s (ap (λ (b : Batches). b.queue) is.1)
    (rest story.synced)
next a m story (Hears t bytes) cs s (passes, is) rest = stays a m story _ s (ap (λ (b : Batches). b.queue) is.1)
    (rest story.synced)
next a m story (Carries t bytes ask asked answer rests) cs s (none, from, asks, done, is) rest =
    takes a m story _ s (may_write_some asked.work) done.seen
    (record asked { batch = None }) done.still.queue done.carries.taken (rest story.synced)
next a m story (Declines t bytes ask ticket why) cs s (asks, (seen, still, work, is_for, not), is) rest =
    stays a m story _ s (not_done_same why seen (record { channel = t; ticket = ticket }) work m.batched not
    ∙ still.queue) (rest story.synced)
next a m story (Tells t ticket answer) cs s (may, passes, out, queue, begun, is) rest = stays a m story _ s queue
    (rest story.synced)
next a m story (Drops t ticket answer) cs s (gone, out, queue, begun, is, places) rest = stays a m story _ s queue
    (rest story.synced)
next a m story (Refuses t ticket) cs s (bound, passes, is) rest = stays a m story _ s
    (ap (λ (b : Batches). b.queue) is.1) (rest story.synced)
next a m story (Hands t bytes) cs s (passes, is) rest = stays a m story _ s (ap (λ (b : Batches). b.queue) is.1)
    (rest story.synced)
next a m story Draws cs s (room, draws, is, places) rest = stays a m story _ s draws.1 (rest story.synced)
next a m story (Sends sealed records) cs s (room, filled, (none, draws, begun, framed), these, is) rest =
    let free = or_none_first (take_refused a.batched.queue (length room - 24)) _
    (or_none_first (frame_refused a.batched.queue a.places (length room)) _ none) in
    goes a m story _ s queues.Takes (numbered a.batched.queue (length room - 24) free, framed.2) refl
    (rest story.synced)
next a m story Turns cs s (segment, more, is) rest = stays a m story _ s (ap (λ (b : StoreView). b.batched.queue) is)
    (rest story.synced)
next a m story (Learns frame Synced) cs s (stages, known, is) rest =
    one_first a.batched.queue m.batched.queue story (queues.Syncs frame) _ s (
      awaited a.batched.queue.stopped (is_awaited frame a.batched.queue) known,
      ap
          (λ (b : StoreView). b.batched.queue) is,
    )
    (rest (frame ∷ story.synced) (story_after a.batched.queue (queues.Syncs frame) story) refl)
next a m story (Learns frame Failed) cs s (stages, known, is) rest =
    goes a m story _ s (queues.Fails frame) (
      awaited a.batched.queue.stopped (is_awaited frame a.batched.queue) known,
      ap
          (λ (b : StoreView). b.batched.queue) is,
    ) refl
    (rest story.synced)
next a m story (Learns frame other) cs s (inl is, known, same) rest = cc
next a m story (Learns frame other) cs s (inr is, known, same) rest = cc
next a m story (Cuts cut) cs s (going, due, (segment, more, is)) rest =
    one_first a.batched.queue m.batched.queue story (queues.Cuts cut) _ s
    (due, ap (λ (b : StoreView). b.batched.queue) is)
    (rest (queues.synced_after cut story.synced) (story_after a.batched.queue (queues.Cuts cut) story) refl)
next a m story Stops cs s (going, due, is) rest = goes a m story _ s queues.Stops
    (ap (λ (b : StoreView). b.batched.queue) is) refl (rest story.synced)
next a m story (Decides (Logged n)) cs s ((decides, commits, queue, begun), is, places) rest =
    goes a m story _ s queues.Decides queue (decided_synced a.batched.queue.batches story) (rest story.synced)
next a m story (Decides (Refused n keys)) cs s ((decides, fails, tells, queue, begun), is, places) rest =
    goes a m story _ s queues.Decides queue (decided_synced a.batched.queue.batches story) (rest story.synced)
next a m story Rests cs s (still, keeps, is) rest = stays a m story _ s still.queue (rest story.synced)

-- where a store's queue leads, whatever story there was before
pub queued : (a : StoreView) (story : Story) (cs : List Call) (s : StoreView) → Serves a cs s
    → Queued a.batched.queue story (synced_from story.synced cs) s
queued a story [] s is = grind (arith, nat_tests)
queued a story (c ∷ cs) s (m, does, rest) =
    next a m story c cs s does
    (λ synced other same. subst (λ ns. Queued m.batched.queue other (synced_from ns cs) s) same
    (queued m other cs s rest))

-- ---- what holds of the queue after all that a store did

module _ (limits : Limits) (origin : Next) (start : Entries) (cs : List Call) (s : StoreView)
    (done : HasDone limits origin start cs s) where
  abbrev most : ℕ
  most = capped (non_zero_u16_get limits.in_flight)

  abbrev pub fresh : QueueView
  fresh = new_queue most limits.undecided origin.frame

  abbrev queue : QueueView
  queue = s.batched.queue

  -- some calls lead a new queue to this one, and were told that the same frames are synced
  pub queue_led : Queued fresh no_story (synced cs) s
  queue_led = subst (λ q. Queued q no_story (synced cs) s) done.new.queue (queued done.first no_story cs s done.serves)

  pub stands_densely : (origin.frame ≤ queue.frame) × AreDense origin.frame queue.frame queue.number queue.batches
  stands_densely = grind (arith, nat_tests, queue_led, frames_are_dense)

  pub cut_is_range : (c : Cut) → cut_due queue ≡ Some c → IsRange c queue.batches
  cut_is_range c due = grind (arith, nat_tests, queue_led, cuts_a_range)

  -- where the oldest batch is synced, its frame is, with all before it
  pub synced_upto : (b : Batch) (bs : List Batch) (n : ℕ) → queue.batches ≡ b ∷ bs → b.stage ≡ Synced → origin.frame ≤ n
      → n ≤ b.frame → has n (synced cs) ≡ true
  synced_upto b bs n are is from upto = grind (arith, nat_tests, queue_led, logs_what_is_synced)
