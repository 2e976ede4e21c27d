-- The frames of the log have the logged commands, along all that a store does.
use Rattle.sk_durable.proofs.Names.{arith, ◌≡◌, ℕ, ◌≤◌, Bool, true, false, cond, not, ◌||◌, ◌&&◌, List, [], ◌∷◌, ◌++◌}
use Rattle.sk_durable.proofs.Names.{Option, Some, None, inl, inr, refl, sym, ◌∙◌, ap, subst, append_assoc, ◌==◌}
use Rattle.sk_durable.proofs.Names.{list_any, or_right, append-nil, is_marked, has, Commit, Event, Fail, is_struck}
use Rattle.sk_durable.proofs.Names.{Batch, Decision, Stage, after_cut, after_take, after_word, batch_of}
use Rattle.sk_durable.proofs.Names.{decided_batch, decision_of, is_decided, is_refused, left, next_records, Entry}
use Rattle.sk_durable.proofs.Names.{eqb_turned, QueueView, RecordView, Logged, is_touched, Answer, log_text}
use Rattle.sk_durable.proofs.Names.{may_write_some, Entries, Asked, Runs, Limits, Next, deed_now, Batches, IsTold}
use Rattle.sk_durable.proofs.Names.{TakenIn, StoreView, Call, Connects, HangsUp, Frees, Hears, Carries, Declines}
use Rattle.sk_durable.proofs.Names.{Tells, Drops, Refuses, Hands, Draws, Sends, Turns, Learns, Cuts, Stops, Decides}
use Rattle.sk_durable.proofs.Names.{Rests, Does, Serves, carried, carried_by, decided, decided_by, failed, frames}
use Rattle.sk_durable.proofs.Names.{frames_by, frames_from, synced, synced_by, synced_from, Command, HasDone}
use Rattle.sk_durable.proofs.Names.{none-some, same_Some}
use Rattle.std.proofs.lemmas.Bool.Decides.{nat_tests}
use Rattle.std.specs.Prelude.{is_some}
use Rattle.sk_batches.specs.declared.batch.Stage.TheVariants as stage_as
use Rattle.sk_batches.specs.declared.queue.Decision.TheVariants as decision
use Rattle.sk_batched.specs.declared.batched.Outcome.TheVariants.{Refused}
use Rattle.sk_durable.proofs.Contained.{at_first}
use Rattle.sk_durable.proofs.Cuts.{cuts_step}
use Rattle.sk_durable.proofs.Framed.{no_frames, with_logged, with_logged_batch, with_refused_batch, with_sent, with_stop, with_told, with_unlogged}
use Rattle.sk_durable.proofs.Frames.{off, HasFrames, InFrames, IsBelow, IsOf}
use Rattle.sk_durable.proofs.Queued.{cut_is_range, not_done_same, stands_densely, synced_upto}
use Rattle.sk_durable.proofs.Served.{carried_behind, decided_behind}
use Rattle.sk_durable.proofs.Standing.{drawn, unstruck}
use Rattle.sk_durable.proofs.Calls.{serves_on}

-- ---- one call more

pub frames_push : (first : ℕ) (log : List (List RecordView)) (cs : List Call) (c : Call)
    → frames_from first log (cs ++ c ∷ []) ≡ frames_by first c (frames_from first log cs)
frames_push first log [] c = refl
frames_push first log (d ∷ cs) c = frames_push first (frames_by first d log) cs c

synced_push : (told : List ℕ) (cs : List Call) (c : Call)
    → synced_from told (cs ++ c ∷ []) ≡ synced_by c (synced_from told cs)
synced_push told [] c = refl
synced_push told (d ∷ cs) c = synced_push (synced_by d told) cs c

pub carried_push : (cs : List Call) (c : Call) → carried (cs ++ c ∷ []) ≡ carried cs ++ carried_by c
carried_push cs c = carried_behind cs (c ∷ []) ∙ ap (λ rs. carried cs ++ rs) (append-nil (carried_by c))

decided_push : (cs : List Call) (c : Call) → decided (cs ++ c ∷ []) ≡ decided cs ++ decided_by c
decided_push cs c = decided_behind cs (c ∷ []) ∙ ap (λ es. decided cs ++ es) (append-nil (decided_by c))

-- ---- the oldest batch

-- what is so of a batch of which this is decided
abbrev pub stage_of : Decision → Stage
stage_of (decision.Logged n) = stage_as.Synced
stage_of (decision.Refused n) = stage_as.Refused

decided_stage : (s : Stage) (number : ℕ) (d : Decision) → decision_of s number ≡ Some d → (s ≡ stage_of d)
    × (number ≡ batch_of d)
decided_stage stage_as.Synced number (decision.Logged n) is = (refl, cc)
decided_stage stage_as.Refused number (decision.Refused n) is = (refl, cc)
decided_stage s number d is = cc

pub record IsOldest (bs : List Batch) (d : Decision) : Type 0 where
  pub oldest : Batch
  pub others : List Batch
  pub are : bs ≡ oldest ∷ others
  pub staged : oldest.stage ≡ stage_of d
  pub number : oldest.number ≡ batch_of d

pub oldest_of : (bs : List Batch) (d : Decision) → decided_batch bs ≡ Some d → IsOldest bs d
oldest_of [] d is = cc
oldest_of (b ∷ bs) d is = grind (arith, nat_tests, decided_stage b.stage b.number d is)

without_oldest : (b : Batch) (bs : List Batch) (stage : Stage) → b.stage ≡ stage → is_decided stage ≡ true
    → left (b ∷ bs) ≡ bs
without_oldest b bs stage is decides = ap (λ t. cond t bs (b ∷ bs)) (ap is_decided is ∙ decides)

-- ---- a command's record

none_off : (bs : List Batch) → list_any (λ b. is_refused b.stage) bs ≡ false → off bs ≡ []
none_off [] none = refl
none_off (b ∷ bs) none = grind (arith, nat_tests, none_off bs)

beside : (a b : Bool) → (a || b) ≡ ((a && not b) || b)
beside true true = refl
beside true false = refl
beside false b = refl

-- what is kept of a command
abbrev pub ran : ℕ → Asked → Answer → List ℕ → Command
ran t asked answer rests = record { entry = Runs asked; said = Some (t, (asked.ticket, answer)); rests = rests }

-- what depends on a batch beside others
own_beside : (t : Bool) (n g : ℕ) → (t || (n == g)) ≡ ((t && not (g == n)) || (n == g))
own_beside t n g = beside t (n == g) ∙ ap (λ b. (t && not b) || (n == g)) (eqb_turned n g)

pub same_runs : (a b : Asked) → Runs a ≡ Runs b → a ≡ b
same_runs a b is = cc

module _ (limits : Limits) (origin : Next) (start : Entries) (cs : List Call) (m : StoreView)
    (done : HasDone limits origin start cs m)
    (so : InFrames origin.frame cs m) where
  abbrev q : QueueView
  q = m.batched.queue

  abbrev After : StoreView → Call → Type 0
  After s c = HasFrames origin.frame (carried cs ++ carried_by c) (decided cs ++ decided_by c)
      (frames_by origin.frame c (frames origin.frame cs)) (synced_by c (synced cs)) s.batched.queue

  -- nothing is decided
  undecided : {rs : List Command} {log : List (List RecordView)} {told : List ℕ} {p : QueueView}
      → HasFrames origin.frame rs (decided cs) log told p → HasFrames origin.frame rs (decided cs ++ []) log told p
  undecided {rs} {log} {told} {p} now = grind (arith, nat_tests, append-nil (decided cs))

  -- nothing was carried out or decided, and the log and the queue are these
  changed : (log : List (List RecordView)) (told : List ℕ) (p r : QueueView) → r ≡ p
      → HasFrames origin.frame (carried cs) (decided cs) log told p
      → HasFrames origin.frame (carried cs ++ []) (decided cs ++ []) log told r
  changed log told p r is now =
      subst (λ rs. HasFrames origin.frame rs (decided cs ++ []) log told r) (sym (append-nil (carried cs)))
      (undecided (subst (HasFrames origin.frame (carried cs) (decided cs) log told) (sym is) now))

  -- the queue is as it was, and nothing was carried out or decided
  idle : (p : QueueView) → p ≡ q
      → HasFrames origin.frame (carried cs ++ []) (decided cs ++ []) (frames origin.frame cs) (synced cs) p
  idle p is = changed (frames origin.frame cs) (synced cs) q p is so

  module _ (s : StoreView) (t : ℕ) (bytes : List ℕ) where
    -- a command is carried out: in the open batch where it may write
    carries : (seen : Batches) (asked : Asked) (answer : Answer) (rests : List ℕ) → seen.queue ≡ q
        → IsTold seen asked answer rests
        → is_struck (failed cs) (ran t asked answer rests) ≡ false
        → ((g : ℕ) → has g rests ≡ true → g ≤ s.batched.queue.number)
        → (w : Bool) → may_write_some asked.work ≡ w → TakenIn w seen (record asked { batch = None }) s.batched
        → list_any (λ b. is_refused b.stage) q.batches ≡ false
        → HasFrames origin.frame (carried cs ++ ran t asked answer rests ∷ []) (decided cs ++ [])
        (frames origin.frame cs) (synced cs) s.batched.queue
    carries seen asked answer rests still told stands upto_now false reads (taken, queue, begun) none =
        let r : Command = ran t asked answer rests in
        let free : asked.batch ≡ None = told.batch ∙ ap (λ b. cond b (Some seen.queue.number) None) reads in
        let under : IsBelow r =
        λ other n g runs is here. absurd (none-some n (sym free ∙ ap (λ (a : Asked). a.batch) (same_runs asked other runs)
        ∙ is)) in
        undecided (subst (HasFrames origin.frame (carried cs ++ r ∷ []) (decided cs) (frames origin.frame cs) (synced cs))
        (sym (queue ∙ still))
        (with_unlogged origin.frame (carried cs) (decided cs) (frames origin.frame cs) (synced cs) q so r
        (ap (λ (b : Option ℕ). is_some b) free) under))
    carries seen asked answer rests still told stands upto_now true writes (room, logs) none =
        let r : Command = ran t asked answer rests in
        let x : RecordView = record { rests = logs.rests; bytes = log_text asked.work } in
        let own : asked.batch ≡ Some q.number =
        told.batch ∙ ap (λ b. cond b (Some seen.queue.number) None) writes
        ∙ ap (λ (p : QueueView). Some p.number) still in
        let grown : s.batched.queue ≡ record q { records = q.records ++ x ∷ [] } =
        logs.queue ∙ ap (λ (p : QueueView). record p { records = p.records ++ x ∷ [] }) still in
        let upto : (g : ℕ) → has g rests ≡ true → g ≤ q.number =
        λ g here. subst (λ n. g ≤ n) (ap (λ (p : QueueView). p.number) grown) (upto_now g here) in
        let touched : ℕ → Bool = is_touched seen.kernel.parts (deed_now seen.kernel (record asked { batch = None })) in
        let exact : (g : ℕ) → has g rests ≡ (has g logs.rests || (q.number == g)) =
        λ g. told.rests_are g
        ∙ ap (λ (b : Option ℕ). touched g || is_marked b g) own
        ∙ own_beside (touched g) q.number g
        ∙ ap (λ n. (touched g && not (g == n)) || (q.number == g)) (sym (ap (λ (p : QueueView). p.number) still))
        ∙ ap (λ b. b || (q.number == g)) (sym (logs.exact g)) in
        let is : IsOf r (q.number, x) = record {
          asked = asked;
          entry = refl;
          batch = own;
          bytes = refl;
          rests = exact;
          below = upto;
        } in
        let under : IsBelow r =
        λ other n g runs at here.
        subst (λ k. g ≤ k) (same_Some q.number n (sym own ∙ ap (λ (a : Asked). a.batch) (same_runs asked other runs) ∙ at)) (upto g here) in
        undecided (subst (HasFrames origin.frame (carried cs ++ r ∷ []) (decided cs) (frames origin.frame cs) (synced cs))
        (sym grown)
        (with_logged origin.frame (carried cs) (decided cs) (frames origin.frame cs) (synced cs) q so r x
        (ap (λ (b : Option ℕ). is_some b) own)
        (ap (λ gs. is_struck gs r) (ap (λ gs. failed cs ++ gs) (none_off q.batches none) ∙ append-nil (failed cs))
        ∙ stands) is under))

  -- the oldest batch is told as logged, or as refused
  decides_batch : (s : StoreView) (d : Decision) (e : ℕ → Event Entry) → is_decided (stage_of d) ≡ true
      → decided_batch q.batches ≡ Some d → s.batched.queue ≡ record q { batches = left q.batches }
      → ((b : Batch) (bs : List Batch) → q.batches ≡ b ∷ bs → b.stage ≡ stage_of d
      → HasFrames origin.frame (carried cs) (decided cs ++ e b.number ∷ []) (frames origin.frame cs) (synced cs)
      (record q { batches = bs }))
      → HasFrames origin.frame (carried cs ++ []) (decided cs ++ e (batch_of d) ∷ []) (frames origin.frame cs)
      (synced cs) s.batched.queue
  decides_batch s d e ends decides queue so_decided =
      grind (arith, nat_tests, oldest_of, without_oldest, batch_of d, append-nil (carried cs))

  pub after : (c : Call) (s : StoreView) → Does m c s → After s c
  after (Connects t) s (channel, past, most, connects, is) = idle s.batched.queue (ap (λ (b : Batches). b.queue) is.1)
  after (HangsUp t) s (hangs, is) = idle s.batched.queue (ap (λ (b : Batches). b.queue) is.1)
  after (Frees t) s (none, frees, is) = idle s.batched.queue (ap (λ (b : Batches). b.queue) is.1)
  after (Hears t bytes) s (passes, is) = idle s.batched.queue (ap (λ (b : Batches). b.queue) is.1)
  after (Carries t bytes ask asked answer rests) s (none, from, asks, task, is) =
      let r : Command = ran t asked answer rests in
      carries s t bytes task.seen asked answer rests task.still.queue task.told
      (unstruck limits origin start cs m done (Carries t bytes ask asked answer rests) s
      (none, from, asks, task, is) refl r (at_first r []))
      (drawn limits origin start cs m done (Carries t bytes ask asked answer rests) s
      (none, from, asks, task, is) refl r (at_first r []))
      (may_write_some asked.work) refl task.carries.taken none
  after (Declines t bytes ask ticket why) s (asks, (seen, still, work, is_for, not_done), is) =
      idle s.batched.queue (not_done_same why seen (record { channel = t; ticket = ticket }) work s.batched not_done
      ∙ still.queue)
  after (Tells t ticket answer) s (may, passes, out, queue, begun, is) = idle s.batched.queue queue
  after (Drops t ticket answer) s (gone, out, queue, begun, is, places) = idle s.batched.queue queue
  after (Refuses t ticket) s (bound, passes, is) = idle s.batched.queue (ap (λ (b : Batches). b.queue) is.1)
  after (Hands t bytes) s (passes, is) = idle s.batched.queue (ap (λ (b : Batches). b.queue) is.1)
  after Draws s (room, draws, is, places) = idle s.batched.queue draws.1
  after (Sends sealed records) s (room, filled, (none, draws, begun, framed), these, is) =
      subst (λ rs. HasFrames origin.frame (carried cs ++ []) (decided cs ++ []) (frames origin.frame cs ++ rs ∷ [])
      (synced cs) s.batched.queue) (sym these)
      (changed (frames origin.frame cs ++ next_records q ∷ []) (synced cs) (after_take q) s.batched.queue framed.2
      (with_sent origin.frame (carried cs) (decided cs) (frames origin.frame cs) (synced cs) q so
      (stands_densely limits origin start cs m done).1))
  after Turns s (segment, more, is) = idle s.batched.queue (ap (λ (b : StoreView). b.batched.queue) is)
  after (Learns frame stage_as.Synced) s (stages, known, is) =
      changed (frames origin.frame cs) (frame ∷ synced cs) (after_word frame stage_as.Synced q) s.batched.queue
      (ap (λ (b : StoreView). b.batched.queue) is)
      (with_told origin.frame (carried cs) (decided cs) (frames origin.frame cs)
      (synced cs) q so frame stage_as.Synced refl refl refl refl (frame ∷ synced cs)
      (λ n here. or_right (frame == n) (has n (synced cs)) here))
  after (Learns frame stage_as.Failed) s (stages, known, is) =
      changed (frames origin.frame cs) (synced cs) (after_word frame stage_as.Failed q) s.batched.queue
      (ap (λ (b : StoreView). b.batched.queue) is)
      (with_told origin.frame (carried cs) (decided cs) (frames origin.frame cs)
      (synced cs) q so frame stage_as.Failed refl refl refl refl (synced cs) (λ n here. here))
  after (Learns frame other) s (inl is, known, same) = cc
  after (Learns frame other) s (inr is, known, same) = cc
  after (Cuts cut) s (going, due, (segment, more, is)) =
      changed (frames_by origin.frame (Cuts cut) (frames origin.frame cs)) (synced_by (Cuts cut) (synced cs))
      (after_cut cut q) s.batched.queue (ap (λ (b : StoreView). b.batched.queue) is)
      (cuts_step origin.frame (carried cs) (decided cs) (frames origin.frame cs) (synced cs) q cut so
      (stands_densely limits origin start cs m done).1
      (cut_is_range limits origin start cs m done cut due))
  after Stops s (going, due, is) =
      changed (frames origin.frame cs) (synced cs) (record q { stopped = true }) s.batched.queue
      (ap (λ (b : StoreView). b.batched.queue) is)
      (with_stop origin.frame (carried cs) (decided cs) (frames origin.frame cs) (synced cs) q so)
  after (Decides (Logged n)) s ((decides, commits, queue, begun), is, places) =
      decides_batch s (decision.Logged n) (λ g. Commit g) refl decides queue
      (λ b bs oldest staged. with_logged_batch origin.frame (carried cs) (decided cs) (frames origin.frame cs)
      (synced cs) q so b bs oldest staged (stands_densely limits origin start cs m done).1
      (λ k from upto. synced_upto limits origin start cs m done b bs k oldest staged from upto))
  after (Decides (Refused n keys)) s ((decides, fails, tells, queue, begun), is, places) =
      decides_batch s (decision.Refused n) (λ g. Fail g) refl decides queue
      (with_refused_batch origin.frame (carried cs) (decided cs) (frames origin.frame cs) (synced cs) q so)
  after Rests s (still, keeps, is) = idle s.batched.queue still.queue

  pub one_more : (c : Call) (s : StoreView) → Does m c s → InFrames origin.frame (cs ++ c ∷ []) s
  one_more c s does =
      grind (
        arith,
        nat_tests,
        carried_push cs c,
        decided_push cs c,
        frames_push origin.frame [] cs c,
        synced_push [] cs c,
        after c s does,
      )

-- ---- any calls

-- whatever holds of a new store, and after each call more where it held before, holds after any calls
pub after_any : (limits : Limits) (origin : Next) (start : Entries) (P : List Call → StoreView → Type 0)
    → ((cs : List Call) (m : StoreView) (c : Call) (s : StoreView) → HasDone limits origin start cs m → Does m c s
    → P cs m → P (cs ++ c ∷ []) s)
    → (before cs : List Call) (m s : StoreView) → HasDone limits origin start before m → Serves m cs s → P before m
    → P (before ++ cs) s
after_any limits origin start P step before [] m s done is so = subst (P (before ++ [])) is
    (subst (λ cs. P cs m) (sym (append-nil before)) so)
after_any limits origin start P step before (c ∷ cs) m s done (n, does, rest) so =
    subst (λ ds. P ds s) (append_assoc before (c ∷ []) cs)
    (after_any limits origin start P step (before ++ c ∷ []) cs n s
    (record {
      first = done.first;
      new = done.new;
      serves = serves_on done.first m n before (c ∷ []) done.serves
          (n, does, refl);
    })
    rest (step before m c n done does so))

pub in_frames : (limits : Limits) (origin : Next) (start : Entries) (cs : List Call) (s : StoreView)
    → HasDone limits origin start cs s → InFrames origin.frame cs s
in_frames limits origin start cs s done =
    let q = done.first.batched.queue in
    let new = done.new.queue in
    after_any limits origin start (InFrames origin.frame)
    (λ ds m c n had does so. one_more limits origin start ds m had so c n does)
    [] cs done.first s (record { first = done.first; new = done.new; serves = refl }) done.serves
    (no_frames origin.frame q (ap (λ (p : QueueView). p.batches) new) (ap (λ (p : QueueView). p.records) new)
    (ap (λ (p : QueueView). p.frame) new))
