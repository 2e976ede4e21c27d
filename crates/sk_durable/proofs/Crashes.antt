-- What a crash leaves is read as the first of the logged commands.
use Rattle.std.proofs.lemmas.Bool.Decides.{nat_tests}
use Rattle.sk_durable.proofs.Names.{◌≡◌, ℕ, ◌+◌, ◌-◌, ◌^◌, ◌<◌, Bool, true, false, cond, List, [], ◌∷◌, ◌++◌, length}
use Rattle.sk_durable.proofs.Names.{map, take, zero, suc, Option, Some, None, inl, inr, refl, sym, ◌∙◌, ap, subst}
use Rattle.sk_durable.proofs.Names.{arith, nat_lt, Contains, option_or, false≢true, Contains-append_cases}
use Rattle.sk_durable.proofs.Names.{Contains-push_cases, Contains-push, kept, Why, take_refused}
use Rattle.sk_durable.proofs.Names.{frame_refused, next_payload, has_room, PlacesView, next_records, QueueView}
use Rattle.sk_durable.proofs.Names.{payload, RecordView, is_full, Channel, Ask, Do, Reject, Inlet, Rejection}
use Rattle.sk_durable.proofs.Names.{is_hosts, with_words, AskInTurn, Asks, ComesTo, IsHeard, Text, Queue, Answer}
use Rattle.sk_durable.proofs.Names.{Work, Say, IsAsked, IsReplyOrAsked, WaitsSaid, may_write_some, what_is_said}
use Rattle.sk_durable.proofs.Names.{ReaderLimits, Entries, payloads_of, AreLogged, names_reserved, entries_after}
use Rattle.sk_durable.proofs.Names.{Asked, Runs, Limits, Next, Asker, error, reserved_words, work_of, Batches}
use Rattle.sk_durable.proofs.Names.{asked_for, HasPast, Past, StoreView, Call, Carries, Cuts, Sends, Does, IsFor}
use Rattle.sk_durable.proofs.Names.{carried, carried_by, cut_off, decided, failed, frames, frames_by, is_logged}
use Rattle.sk_durable.proofs.Names.{logged, past, synced, Command, CrashesAreRecovered, HasDone}
use Rattle.std.specs.Prelude.{is_some}
use Rattle.sk_batches.specs.declared.refusal.Refusal.TheVariants as why
use Rattle.sk_channels.specs.declared.rejection.Rejection.TheVariants as rejections
use Rattle.sk_channels.specs.Asking.{Requests}
use Rattle.sk_durable.proofs.Contained.{filter_of_map, first_or_later, nothing_there}
use Rattle.sk_durable.proofs.Frames.{living}
use Rattle.sk_durable.proofs.Channels.{has_past}
use Rattle.sk_durable.proofs.Plain.{logged_told}
use Rattle.sk_durable.proofs.Records.{after_any, carried_push, frames_push, in_frames}
use Rattle.sk_durable.proofs.Recovered.{front, logged_frames, restored, settled_first, work_in, AreShort}
use Rattle.sk_durable.proofs.Queued.{or_none_first}

-- ---- no frame is longer than one may be

short_push : (log : List (List RecordView)) (records : List RecordView) → AreShort log
    → length (payload records) < 2 ^ 28 → AreShort (log ++ records ∷ [])
short_push [] records all one = (one, tt)
short_push (rs ∷ log) records all one = (all.0, short_push log records all.1 one)

short_front : (n : ℕ) (log : List (List RecordView)) → AreShort log → AreShort (take n log)
short_front zero log all = tt
short_front (suc n) [] all = tt
short_front (suc n) (rs ∷ log) all = (all.0, short_front n log all.1)

no_room : (short room : Bool) → (cond short (Some why.Short) (cond room None (Some why.Full))) ≡ None → room ≡ true
no_room true room is = cc
no_room false true is = refl
no_room false false is = cc

second_none : (o p : Option Why) → option_or o p ≡ None → p ≡ None
second_none None p is = is
second_none (Some w) p is = cc

-- a frame that is taken is no longer
short_frame : (q : QueueView) (p : PlacesView) (room : ℕ) (full : Bool)
    → option_or (frame_refused q p room) (cond full (Some why.Busy) None) ≡ None
    → length (payload (next_records q)) < 2 ^ 28
short_frame q p room full none =
    grind (
      arith,
      nat_tests,
      no_room (nat_lt room 24) (has_room p (length (next_payload q))),
      second_none (take_refused q (room - 24)),
      or_none_first (frame_refused q p room),
    )

short_after : (m s : StoreView) (c : Call) (first : ℕ) (log : List (List RecordView)) → Does m c s → AreShort log
    → AreShort (frames_by first c log)
short_after m s (Sends sealed records) first log (room, filled, (none, draws, begun, framed), these, is) all =
    subst (λ rs. AreShort (log ++ rs ∷ [])) (sym these)
    (short_push log (next_records m.batched.queue) all
    (short_frame m.batched.queue m.places (length room) (is_full m.batched) none))
short_after m s (Cuts cut) first log does all = short_push (take (cut.frame - first) log) []
    (short_front (cut.frame - first) log all) (omega arith)
short_after m s other first log does all = all

are_short : (limits : Limits) (origin : Next) (start : Entries) (cs : List Call) (s : StoreView)
    → HasDone limits origin start cs s → AreShort (frames origin.frame cs)
are_short limits origin start cs s done =
    after_any limits origin start (λ ds m. AreShort (frames origin.frame ds))
    (λ ds m c n had does all. subst AreShort (sym (frames_push origin.frame [] ds c))
    (short_after m n c origin.frame (frames origin.frame ds) does all))
    [] cs done.first s (record { first = done.first; new = done.new; serves = refl }) done.serves tt

-- ---- logged work was asked for

-- work that may write is more than a reply
more_than_reply : (work : Work) → may_write_some work ≡ true → IsReplyOrAsked work → IsAsked work
more_than_reply (Say reply) writes is = absurd (false≢true writes)
more_than_reply s writes is = is

reject_or_do : {P : Type 0} (rejection : Rejection) (work : Work) → Reject rejection ≡ Do work → P
reject_or_do rejection work is = cc

same_do : (one two : Work) → Do one ≡ Do two → one ≡ two
same_do one two is = cc

-- what one request asks for, and the queue that it leaves
one_asked : (old : Option Queue) (told : Option (List (List ℕ))) (ask : Ask) (next : Option Queue)
    → Asks old told ask next → WaitsSaid old
    → WaitsSaid next × ((work : Work) → ask ≡ Do work → IsReplyOrAsked work)
one_asked old (Some words) (Do work) next asks said =
    grind (arith, nat_tests, what_is_said old words said, same_do work)
one_asked None (Some words) (Reject rejections.Memory) next asks said = absurd asks
one_asked (Some queue) (Some words) (Reject rejections.Memory) next asks said =
    (subst WaitsSaid (sym asks) said, λ work is. reject_or_do rejections.Memory work is)
one_asked None (Some words) (Reject rejections.QueueFull) next asks said = absurd asks
one_asked (Some queue) (Some words) (Reject rejections.QueueFull) next asks said =
    (subst WaitsSaid (sym asks) said, λ work is. reject_or_do rejections.QueueFull work is)
one_asked None None (Reject rejections.TooLarge) next asks said =
    (subst WaitsSaid (sym asks) tt, λ work is. reject_or_do rejections.TooLarge work is)
one_asked (Some queue) None (Reject rejections.TooLarge) next asks said =
    (subst WaitsSaid (sym asks) said, λ work is. reject_or_do rejections.TooLarge work is)
one_asked old told ask next asks said = absurd asks

-- what a host told is only a reply
one_comes : (hosts : Bool) (old : Option Queue) (told : Option (List (List ℕ))) (ask : Ask) (next : Option Queue)
    → ComesTo hosts old told ask next → WaitsSaid old
    → WaitsSaid next × ((work : Work) → ask ≡ Do work → IsReplyOrAsked work)
one_comes true old told ask next ((text, says), same) said = grind (arith, nat_tests, same_do (Say (Text text)))
one_comes false old told ask next asks said = one_asked old told ask next asks said

all_asked : (old : Option Queue) (told : Requests) (asked : List Ask) (next : Option Queue)
    → AskInTurn old told asked next → WaitsSaid old
    → (work : Work) → Contains asked (Do work) → IsReplyOrAsked work
all_asked old [] [] next asks said work at = nothing_there (Do work) at
all_asked old [] (a ∷ asked) next asks said work at = absurd asks
all_asked old (t ∷ told) [] next asks said work at = absurd asks
all_asked old (t ∷ told) (a ∷ asked) next (mid, one, more) said work at =
    grind (
      arith,
      nat_tests,
      one_comes (is_hosts old t) old t a mid one said,
      first_or_later a asked (Do work) at,
      all_asked mid told asked next more,
    )

heard_asked : (closed : Bool) (limits : ReaderLimits) (asked : List Ask) (stream : List ℕ) (inlet : Inlet)
    → IsHeard closed limits asked stream inlet
    → (work : Work) → Contains asked (Do work) → IsReplyOrAsked work
heard_asked false limits asked stream inlet heard work at = all_asked None
    (with_words heard.told) asked inlet.session.queue heard.asks tt work at
heard_asked true limits asked stream inlet (heard, none) work at =
    elim (Contains-push_cases heard.before (Reject (rejections.Fault heard.fault)) (Do work)
    (subst (λ all. Contains all (Do work)) heard.rejects at)) [
      | inl before ↦ all_asked None (with_words heard.told) heard.before heard.queue heard.asks tt work before
      | inr last ↦ reject_or_do (rejections.Fault heard.fault) work last
    ]

past_asked : (limits : ReaderLimits) (p : Past) (channel : Channel) → HasPast limits p channel → (work : Work)
    → Contains p.asked (Do work) → IsReplyOrAsked work
past_asked limits p channel has work at = heard_asked channel.inlet.closed limits p.asked p.stream channel.inlet
    has.heard.heard work at

-- work that may write is what was asked for
free_or_error : (reserved : Bool) (work done : Work) → done ≡ cond reserved (error reserved_words) work
    → may_write_some done ≡ true → done ≡ work
free_or_error true work done is writes = absurd (false≢true (sym (ap may_write_some is) ∙ writes))
free_or_error false work done is writes = is

asked_work : (ask : Ask) (work : Work) → work ≡ work_of ask → may_write_some work ≡ true → ask ≡ Do work
asked_work (Do asks) work is writes = ap Do (sym (free_or_error (names_reserved asks) asks work is writes))
asked_work (Reject rejection) work is writes = absurd (false≢true (sym (ap may_write_some is) ∙ writes))

is_asked : (b : Batches) (asker : Asker) (ask : Ask) (work : Work) → IsFor b asker ask work
    → may_write_some work ≡ true → ask ≡ Do work
is_asked b asker ask work (inl is) writes = asked_work ask work is writes
is_asked b asker ask work (inr too_long) writes = absurd (false≢true (sym (ap may_write_some too_long.0) ∙ writes))

writes_some : (w : Bool) (n : ℕ) (batch : Option ℕ) → batch ≡ cond w (Some n) None → is_some batch ≡ true → w ≡ true
writes_some true n batch is some = refl
writes_some false n batch is some = absurd (false≢true (sym (ap (λ (b : Option ℕ). is_some b) is) ∙ some))

-- each logged command is of work that was asked for
abbrev AreAskedFor : List Command → Type 0
AreAskedFor commands = (r : Command) → Contains commands r → is_logged r.entry ≡ true → IsAsked (work_in r)

abbrev ran : ℕ → Asked → Answer → List ℕ → Command
ran t asked answer rests = record { entry = Runs asked; said = Some (t, (asked.ticket, answer)); rests = rests }

module _ (limits : Limits) (origin : Next) (start : Entries) (cs : List Call) (m : StoreView)
    (done : HasDone limits origin start cs m) where
  asked_now : (c : Call) (s : StoreView) → Does m c s → AreAskedFor (carried_by c)
  asked_now (Carries t bytes ask asked answer rests) s (none, from, asks, task, is) r at logs =
      let only : ran t asked answer rests ≡ r =
      elim (first_or_later (ran t asked answer rests) [] r at) [
        | inl here ↦ here
        | inr later ↦
            nothing_there r later
      ] in
      let writes : may_write_some asked.work ≡ true =
      writes_some (may_write_some asked.work) task.seen.queue.number asked.batch task.told.batch
      (ap (λ (q : Command). is_logged q.entry) only ∙ logs) in
      let wants = is_asked m.batched
      (record { channel = asked.channel; ticket = asked.ticket }) ask asked.work task.is_for writes in
      let before = asks.0 in
      let p : Past = past t cs in
      let has : HasPast limits.requests (asked_for bytes ask p) asks.1 =
      asks.3 limits.requests p (has_past limits origin start cs m done t before asks.2.there) in
      let said : IsReplyOrAsked asked.work =
      past_asked limits.requests (asked_for bytes ask p) asks.1 has asked.work
      (subst (λ a. Contains (p.asked ++ ask ∷ []) a) wants (Contains-push p.asked ask)) in
      subst (λ (q : Command). IsAsked (work_in q)) only (more_than_reply asked.work writes said)
  asked_now other s does r at logs = nothing_there r at

asked_for_all : (limits : Limits) (origin : Next) (start : Entries) (cs : List Call) (s : StoreView)
    → HasDone limits origin start cs s → AreAskedFor (carried cs)
asked_for_all limits origin start cs s done =
    after_any limits origin start (λ ds m. AreAskedFor (carried ds))
    (λ ds m c n had does all r at logs.
    elim (Contains-append_cases (carried ds) (carried_by c) r
    (subst (λ rs. Contains rs r) (carried_push ds c) at)) [
      | inl before ↦ all r before logs
      | inr now ↦ asked_now limits origin start ds m had c n does r now logs
    ])
    [] cs done.first s (record { first = done.first; new = done.new; serves = refl }) done.serves
    (λ r at logs. nothing_there r at)

-- ---- the law

logged_are : (cs : List Call) (s : StoreView)
    → logged cs s ≡ map (λ (r : Command). r.entry) (living (carried cs) (failed cs ++ cut_off s))
logged_are cs s = filter_of_map (λ (r : Command). r.entry) is_logged (kept (failed cs ++ cut_off s) (carried cs))

pub crashes_are_recovered : CrashesAreRecovered
crashes_are_recovered limits origin start cs s done count n works synced_are upto said =
    let so = in_frames limits origin start cs s done in
    let q = s.batched.queue in
    let log = frames origin.frame cs in
    let size = length (front origin.frame (carried cs) (decided cs) log (synced cs) q so n) in
    record {
      count = size;
      map_is = restored origin.frame (carried cs) (decided cs) log (synced cs) q so n works start
          (are_short limits origin start cs s done)
          (asked_for_all limits origin start cs s done) said
          ∙ ap (λ es. entries_after (take size es) start) (sym (logged_are cs s));
      settled = λ asked batch at is told.
          subst (λ es. Contains (take size es) (Runs asked)) (sym (logged_are cs s))
          (settled_first origin.frame (carried cs) (decided cs) log
          (synced cs) q so n count synced_are.next upto asked batch at is (logged_told cs batch told));
    }

-- each frame of the log has works that some request asks for
pub frames_are_logged : (limits : Limits) (origin : Next) (start : Entries) (cs : List Call) (s : StoreView)
    → HasDone limits origin start cs s
    → (works : List (List Work)) × (map payload (frames origin.frame cs) ≡ payloads_of works) × AreLogged works
frames_are_logged limits origin start cs s done =
    logged_frames origin.frame (carried cs) (decided cs) (frames origin.frame cs) (synced cs) s.batched.queue
    (in_frames limits origin start cs s done)
    (are_short limits origin start cs s done)
    (asked_for_all limits origin start cs s done)
