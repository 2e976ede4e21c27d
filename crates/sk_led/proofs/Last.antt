-- What a store does that is wound up.
use Rattle.sk_led.proofs.Names.{◌≡◌, ◌==◌, ◌||◌, ◌≢◌, ℕ, suc, ◌+◌, ◌<◌, ◌≤◌, Bool, true, false, List, [], ◌∷◌, ◌++◌}
use Rattle.sk_led.proofs.Names.{length, map, Some, None, Ok, Err, Option, option_or, inl, inr, refl, sym, ◌∙◌, ap}
use Rattle.sk_led.proofs.Names.{subst, arith, if◌then◌else◌, list_any, list_any-append, or_right, eq-eqb, false≢true}
use Rattle.sk_led.proofs.Names.{serves_on, Batch, Stage, QueueView, after_take, awaits, cut_due, first_failed}
use Rattle.sk_led.proofs.Names.{is_awaited, is_decided, is_failed, last_in, left, next_records, open_batch}
use Rattle.sk_led.proofs.Names.{queue_decided, send, tell, word_refused, Cut, Decision, decision_of}
use Rattle.sk_led.proofs.Names.{PlacesView, Refusal, Sealed, Stays, AfterNoFrame, all_stays, place_at, next_refused}
use Rattle.sk_led.proofs.Names.{queue_cause_of, Call, Cuts, Decides, Draws, Learns, Rests, Sends, Turns, StoreDoes}
use Rattle.sk_led.proofs.Names.{StoreView, FramePost, any_failed, AreLast, DoesLast, IsAgainst, ◌^◌, ◌-◌, is_some}
use Rattle.sk_led.proofs.Names.{nat_le, DecidesAll, FailPost, leb-false, eqb-true, next_segment, Result, TakePost}
use Rattle.sk_led.proofs.Names.{TurnPost, CutPost, WindUpPost, frame_refused, MayBegin, none-some}
use Rattle.sk_batches.specs.declared.batch.Stage.TheVariants as stages
use Rattle.sk_batches.specs.declared.refusal.Refusal.TheVariants as refusals
use Rattle.sk_batched.specs.declared.batched.Outcome.{Outcome}
use Rattle.sk_batched.specs.declared.batched.Outcome.TheVariants as outcomes

-- ---- calls

pub last_on : (cs ds : List Call) → AreLast cs → AreLast ds → AreLast (cs ++ ds)
last_on [] ds l m = m
last_on (Sends sealed records ∷ Learns frame stages.Failed ∷ cs) ds l m = (l.0, last_on cs ds l.1 m)
last_on (Cuts cut ∷ cs) ds l m = last_on cs ds l m
last_on (Decides outcome ∷ cs) ds l m = last_on cs ds l m
last_on (Turns ∷ cs) ds l m = last_on cs ds l m
last_on (Draws ∷ cs) ds l m = last_on cs ds l m
last_on (Rests ∷ cs) ds l m = last_on cs ds l m
last_on (c ∷ cs) ds l m = absurd l

pub none_done : (a : StoreView) → DoesLast a a
none_done a = ([], refl, tt)

pub one_done : (a b : StoreView) (c : Call) → StoreDoes a c b → AreLast (c ∷ []) → DoesLast a b
one_done a b c does last = (c ∷ [], (b, does, refl), last)

pub does_on : (a m b : StoreView) → DoesLast a m → DoesLast m b → DoesLast a b
does_on a m b x y = (x.0 ++ y.0, serves_on a m b x.0 y.0 x.1 y.1, last_on x.0 y.0 x.2 y.2)

-- ---- decisions

stage_left : (s : Stage) (n : ℕ) (d : Decision) (b : Batch) (bs : List Batch) → decision_of s n ≡ Some d
    → length (if is_decided s then bs else b ∷ bs) < suc (length bs)
stage_left stages.Synced n d b bs e = omega arith
stage_left stages.Refused n d b bs e = omega arith
stage_left s n d b bs e = absurd (none-some d e)

pub left_fewer : (bs : List Batch) (d : Decision) → queue_decided bs ≡ Some d → length (left bs) < length bs
left_fewer [] d e = absurd (none-some d e)
left_fewer (b ∷ bs) d e = stage_left b.stage b.number d b bs e

pub decides_fewer : (a b : StoreView) (outcome : Outcome) → StoreDoes a (Decides outcome) b
    → length b.batched.queue.batches < length a.batched.queue.batches
decides_fewer a b (outcomes.Logged n) does = subst (λ (q : QueueView). length q.batches < length a.batched.queue.batches)
    (sym does.0.2) (left_fewer a.batched.queue.batches _ does.0.0)
decides_fewer a b (outcomes.Refused n keys) does = subst (λ (q : QueueView). length q.batches < length a.batched.queue.batches)
    (sym does.0.3) (left_fewer a.batched.queue.batches _ does.0.0)

-- what was done before this, which left all places as they were
abbrev pub DecidesOn : StoreView → StoreView → Type 0
DecidesOn a b = DoesLast a b × (b.places ≡ a.places)

pub decides_more : (a m b : StoreView) (outcome : Outcome) → DecidesOn a m → StoreDoes m (Decides outcome) b → DecidesOn a b
decides_more a m b outcome before does = (does_on a m b before.0 (one_done m b (Decides outcome) does tt), does.2 ∙ before.1)

-- ---- a frame that fails

-- no word on it is refused where it is awaited
awaited_if : (stopped awaited : Bool) → (if stopped then Some refusals.Stopped else if awaited then None else Some refusals.Unknown) ≡ None
    → awaited ≡ true
awaited_if true awaited e = absurd (none-some refusals.Stopped (sym e))
awaited_if false true e = refl
awaited_if false false e = absurd (none-some refusals.Unknown (sym e))

pub any_told : (frame : ℕ) (bs : List Batch) → list_any (awaits frame) bs ≡ true
    → list_any (λ (b : Batch). is_failed b.stage) (map (tell frame stages.Failed) bs) ≡ true
any_told frame [] is = absurd (false≢true is)
any_told frame (b ∷ bs) is = elim (awaits frame b) as (λ t. (t || list_any (awaits frame) bs) ≡ true
    → (is_failed (if t then record b { stage = stages.Failed } else b).stage
    || list_any (λ (b : Batch). is_failed b.stage) (map (tell frame stages.Failed) bs)) ≡ true) [
      | true ↦ λ _. refl
      | false ↦ λ rest. or_right (is_failed b.stage) _ (any_told frame bs rest)
    ] is

abbrev cut_at : Batch → List Batch → Cut
cut_at b bs = record { frame = b.frame; first = b.number; last = last_in b.frame b.number bs }

first_some : (bs : List Batch) (c : Cut) → first_failed bs ≡ Some c → list_any (λ (b : Batch). is_failed b.stage) bs ≡ true
first_some [] c e = absurd (none-some c e)
first_some (b ∷ bs) c e = elim (is_failed b.stage) as (λ t. (if t then Some (cut_at b bs) else first_failed bs) ≡ Some c
    → (t || list_any (λ (b : Batch). is_failed b.stage) bs) ≡ true) [
      | true ↦ λ _. refl
      | false ↦ λ rest. first_some bs c rest
    ] e

due_of : (t : Bool) (bs : List Batch) (c : Cut) → (if t then None else first_failed bs) ≡ Some c
    → list_any (λ (b : Batch). is_failed b.stage) bs ≡ true
due_of true bs c e = absurd (none-some c e)
due_of false bs c e = first_some bs c e

pub due_failed : (q : QueueView) (c : Cut) → cut_due q ≡ Some c → list_any (λ (b : Batch). is_failed b.stage) q.batches ≡ true
due_failed q c e = due_of _ q.batches c e

-- a frame that was taken is told as failed
pub fails_now : (a b : StoreView) (frame : ℕ) → StoreDoes a (Learns frame stages.Failed) b → (any_failed b ≡ true) × (b.places ≡ a.places)
fails_now a b frame does =
    let awaited : is_awaited frame a.batched.queue ≡ true = awaited_if a.batched.queue.stopped (is_awaited frame a.batched.queue) does.1 in (
      subst (λ (s : StoreView). any_failed s ≡ true) (sym does.2) (any_told frame a.batched.queue.batches awaited),
      ap (λ (s : StoreView). s.places) does.2,
    )

-- ---- the next frame

-- the first cause against it, by what is so
abbrev cause : (stopped none busy number short head room full : Bool) → Option Refusal
cause stopped none busy number short head room full = option_or
    (option_or (if stopped then Some refusals.Stopped
    else if none then Some refusals.Nothing
    else if busy then Some refusals.Busy
    else if number then Some refusals.NoNumber
    else if short then Some refusals.Short
    else None)
    (if head then Some refusals.Short else if room then None else Some refusals.Full))
    (if full then Some refusals.Busy else None)

pub no_cause : (s n b m sh h r f : Bool) → cause s n b m sh h r f ≡ None → (s ≡ false) × (f ≡ false)
no_cause false false false false false false true false e = (refl, refl)
no_cause s n b m sh h r f e = cc

pub is_nothing : (s n b m sh h r f : Bool) → cause s n b m sh h r f ≡ Some refusals.Nothing → n ≡ true
is_nothing false true b m sh h r f e = refl
is_nothing false false false false false false true false e = cc
is_nothing s n b m sh h r f e = cc

pub not_uncut : (s n b m sh h r f : Bool) → cause s n b m sh h r f ≡ Some refusals.NoCut → ⊥
not_uncut false false false false false false true false e = cc
not_uncut s n b m sh h r f e = cc

pub not_unknown : (s n b m sh h r f : Bool) → cause s n b m sh h r f ≡ Some refusals.Unknown → ⊥
not_unknown false false false false false false true false e = cc
not_unknown s n b m sh h r f e = cc

no_length : {A : Type 0} (xs : List A) → (length xs == 0) ≡ true → xs ≡ []
no_length [] e = refl
no_length (x ∷ xs) e = let none = eqb-true (suc (length xs)) 0 e in absurd (omega (arith, none))

-- what was taken is awaited
awaited_now : (q : QueueView) → q.stopped ≡ false → word_refused (after_take q) q.frame ≡ None
awaited_now q e =
    let last : awaits q.frame (open_batch q) ≡ true = eq-eqb q.frame q.frame refl in
    let any : is_awaited q.frame (after_take q) ≡ true = list_any-append (awaits q.frame) (map (send q.frame) q.batches) (open_batch q ∷ [])
    ∙ ap (λ t. list_any (awaits q.frame) (map (send q.frame) q.batches) || (t || false)) last ∙ or_right _ true refl in
    rw (e, any) refl

none_first : (x y : Option Refusal) → option_or x y ≡ None → x ≡ None
none_first None y e = refl
none_first (Some why) y e = absurd (none-some why (sym e))

-- of a store
abbrev refused : StoreView → ℕ → Option Refusal
refused s room = next_refused s.batched s.places room

-- why no frame is taken
pub against : (why : Refusal) (room : ℕ) (s : StoreView) → why ≢ refusals.Full → why ≢ refusals.Nothing → refused s room ≡ queue_cause_of why
    → IsAgainst why room s
against refusals.Full room s full none e = absurd (full refl)
against refusals.Nothing room s full none e = absurd (none refl)
against refusals.Short room s full none e = e
against refusals.Unknown room s full none e = absurd (not_unknown _ _ _ _ _ _ _ _ e)
against refusals.NoCut room s full none e = absurd (not_uncut _ _ _ _ _ _ _ _ e)
against refusals.Memory room s full none e = none_first (frame_refused s.batched.queue s.places room) _ e
against other room s full none e = inr e

-- no record waits for a frame
pub nothing_waits : (room : ℕ) (s : StoreView) → refused s room ≡ Some refusals.Nothing → next_records s.batched.queue ≡ []
nothing_waits room s e = no_length (next_records s.batched.queue) (is_nothing _ _ _ _ _ _ _ _ e)

-- a frame is taken, and waits for its word
pub taken : (a b : StoreView) (sealed : Sealed) (room filled : List ℕ) → FramePost (Ok sealed) room filled a b
    → StoreDoes a (Sends sealed (next_records a.batched.queue)) b × (word_refused b.batched.queue sealed.frame ≡ None)
    × (b.places.segment ≡ a.places.segment)
taken a b sealed room filled post =
    let frame = post.0.3 in
    let clear = no_cause _ _ _ _ _ _ _ _ post.0.0 in
    let queue = frame.2 in
    let same : sealed.frame ≡ a.batched.queue.frame = ap (λ (x : Sealed). x.frame) frame.1 in (
      (room, filled, post.0, refl, (post.1, post.2)),
      subst (λ (q : QueueView). word_refused q sealed.frame ≡ None) (sym queue)
          (subst (λ n. word_refused (after_take a.batched.queue) n ≡ None) (sym same) (awaited_now a.batched.queue clear.0)),
      ap (λ (p : PlacesView). p.segment) frame.3,
    )

same_batches : (a b : StoreView) → b.batched ≡ a.batched → Stays a.batched b.batched
same_batches a b e = subst (λ x. Stays a.batched x) (sym e) (all_stays a.batched)

rests : (a b : StoreView) → Stays a.batched b.batched → b.places ≡ a.places → (b.limits ≡ a.limits) × (b.channels ≡ a.channels) → DoesLast a b
rests a b stays places same = one_done a b Rests (stays, (λ n. ap (λ cs. place_at cs n) same.1), (same.0, places)) tt

did_not : (a b : StoreView) (why : Refusal) (room : ℕ) → refused a room ≡ queue_cause_of why → AfterNoFrame why a.batched b.batched
    → b.places ≡ a.places → (b.limits ≡ a.limits) × (b.channels ≡ a.channels) → DoesLast a b
did_not a b refusals.Memory room e after places same = elim after as (λ _. DoesLast a b) [
  | inl stays ↦ rests a b stays places same
  | inr begins ↦ one_done a b Draws ((no_cause _ _ _ _ _ _ _ _ e).1, begins.1, same, places) tt
]
did_not a b other room e after places same = rests a b (same_batches a b after) places same

-- none is: the guess of the open batch may be drawn, or nothing is seen to change
pub not_taken : (a b : StoreView) (why : Refusal) (room filled : List ℕ) → FramePost (Err why) room filled a b → DoesLast a b
not_taken a b why room filled post = did_not a b why (length room) post.0.0 post.0.1 post.0.2 (post.1, post.2)

same_refused : (a b : StoreView) (room : ℕ) (x : Option Refusal) → b.batched ≡ a.batched → b.places ≡ a.places → refused a room ≡ x
    → refused b room ≡ x
same_refused a b room x batched places e = rw (batched, places) e

no_memory : (a b : StoreView) (room : ℕ) → refused a room ≡ None → MayBegin a.batched b.batched → b.places ≡ a.places
    → frame_refused b.batched.queue b.places room ≡ None
no_memory a b room e after places =
    let queue : b.batched.queue ≡ a.batched.queue = elim after as (λ _. b.batched.queue ≡ a.batched.queue) [
      | inl stays ↦ stays.queue
      | inr begins ↦ begins.1.1
    ] in
    rw (queue, places) (none_first (frame_refused a.batched.queue a.places room) _ e)

why_not : (why : Refusal) (a b : StoreView) (room filled : List ℕ) → FramePost (Err why) room filled a b → why ≢ refusals.Full
    → why ≢ refusals.Nothing → IsAgainst why (length room) b
why_not refusals.Memory a b room filled post full none = no_memory a b (length room) post.0.0 post.0.1 post.0.2
why_not other a b room filled post full none =
    against other (length room) b full none (same_refused a b (length room) (queue_cause_of other) post.0.1 post.0.2 post.0.0)

-- where the segment has room for it
pub taken_at_first : (result : Result Sealed Refusal) (a b : StoreView) (room filled : List ℕ) → (result ≡ Err refusals.Full → ⊥)
    → FramePost result room filled a b → TakePost result (length room) a b
taken_at_first (Ok sealed) a b room filled not post =
    let t = taken a b sealed room filled post in
    (a, next_records a.batched.queue, none_done a, t.0, t.1, (let same = t.2 in omega (arith, same)))
taken_at_first (Err refusals.Full) a b room filled not post = absurd (not refl)
taken_at_first (Err refusals.Nothing) a b room filled not post = (
  not_taken a b refusals.Nothing room filled post,
  post.0.1,
  nothing_waits (length room) b (same_refused a b (length room) (Some refusals.Nothing) post.0.1 post.0.2 post.0.0),
)
taken_at_first (Err other) a b room filled not post =
    (not_taken a b other room filled post, why_not other a b room filled post (λ e. cc) (λ e. cc))

-- what was done before, and the next segment
pub record IsTurned (a m : StoreView) : Type 0 where
  pub does : DoesLast a m
  pub batched : m.batched ≡ a.batched
  pub front : m.places.offset ≡ 0
  pub later : a.places.segment ≤ m.places.segment

next_is : (p : PlacesView) (segment : ℕ) → next_segment p ≡ Some segment → (segment ≡ p.segment + 1) × (p.segment + 1 < 2 ^ 28)
next_is p segment e = elim (nat_le (2 ^ 28) (p.segment + 1)) as (λ t. nat_le (2 ^ 28) (p.segment + 1) ≡ t
    → (if t then None else Some (p.segment + 1)) ≡ Some segment → (segment ≡ p.segment + 1) × (p.segment + 1 < 2 ^ 28)) [
      | true ↦ λ t e. absurd (none-some segment e)
      | false ↦ λ t e. ((let same : p.segment + 1 ≡ segment = cc in sym same), leb-false (2 ^ 28) (p.segment + 1) t)
    ] refl e

pub turned : (a m n : StoreView) (room filled : List ℕ) → FramePost (Err refusals.Full) room filled a m → StoreDoes m Turns n → IsTurned a n
turned a m n room filled post does =
    let goes = next_is m.places does.0 does.1 in
    let places : n.places ≡ record m.places { segment = does.0; offset = 0 } = ap (λ (s : StoreView). s.places) does.2 in
    record {
      does = does_on a m n (not_taken a m refusals.Full room filled post) (one_done m n Turns does tt);
      batched = ap (λ (s : StoreView). s.batched) does.2 ∙ post.0.1;
      front = ap (λ (p : PlacesView). p.offset) places;
      later =
          let here : n.places.segment ≡ does.0 = ap (λ (p : PlacesView). p.segment) places in
          let before : m.places.segment ≡ a.places.segment = ap (λ (p : PlacesView). p.segment) post.0.2 in
          let next = goes.0 in omega (arith, here, before, next);
    }

-- where it has room in the next segment
pub taken_behind : (result : Result Sealed Refusal) (a m b : StoreView) (room filled : List ℕ) → IsTurned a m
    → FramePost result room filled m b → TakePost result (length room) a b
taken_behind (Ok sealed) a m b room filled goes post =
    let t = taken m b sealed room filled post in
    (m, next_records m.batched.queue, goes.does, t.0, t.1, (let same = t.2 in let later = goes.later in omega (arith, same, later)))
taken_behind (Err refusals.Full) a m b room filled goes post = (
  does_on a m b goes.does (not_taken m b refusals.Full room filled post),
  (same_refused m b (length room) (Some refusals.Full) post.0.1 post.0.2 post.0.0, ap (λ (p : PlacesView). p.offset) post.0.2 ∙ goes.front),
)
taken_behind (Err refusals.Nothing) a m b room filled goes post = (
  does_on a m b goes.does (not_taken m b refusals.Nothing room filled post),
  post.0.1 ∙ goes.batched,
  nothing_waits (length room) b (same_refused m b (length room) (Some refusals.Nothing) post.0.1 post.0.2 post.0.0),
)
taken_behind (Err why) a m b room filled goes post =
    let first = taken_at_first (Err why) m b room filled (λ e. cc) post in (does_on a m b goes.does first.0, first.1)

-- no segment is left
pub not_turned : (why : Refusal) (a m n : StoreView) (room filled : List ℕ) → FramePost (Err refusals.Full) room filled a m
    → TurnPost (Err why) m n → TakePost (Err why) (length room) a n
not_turned why a m n room filled post turn = subst (λ w. TakePost (Err w) (length room) a n) (sym turn.1) (
  subst (λ s. DoesLast a s) (sym turn.2) (not_taken a m refusals.Full room filled post),
  inl (subst (λ (s : StoreView). next_segment s.places ≡ None) (sym turn.2) turn.0),
)

-- ---- a frame that failed

pub some_due : (q : QueueView) (due : Option Cut) → due ≡ cut_due q → is_some due ≡ true
    → list_any (λ (b : Batch). is_failed b.stage) q.batches ≡ true
some_due q None e some = absurd (false≢true some)
some_due q (Some c) e some = due_failed q c (sym e)

-- the next, which is taken for that
pub failed_next : (a m b : StoreView) (sealed : Sealed) (room : ℕ) → TakePost (Ok sealed) room a m
    → StoreDoes m (Learns sealed.frame stages.Failed) b → FailPost (Ok true) room a b
failed_next a m b sealed room taken does =
    let fails = fails_now m b sealed.frame does in (
      does_on a taken.0 b taken.2 (Sends sealed taken.1 ∷ Learns sealed.frame stages.Failed ∷ [], (m, taken.3, (b, does, refl)), (refl, tt)),
      fails.0,
      (let before = taken.5 in let same = ap (λ (p : PlacesView). p.segment) fails.1 in omega (arith, before, same)),
    )

-- ---- the loop

-- how many segments are left
abbrev pub segments_left : StoreView → ℕ
segments_left s = 2 ^ 28 - s.places.segment

-- it is cut off, and all is decided
pub cut_and_decided : (a m n b : StoreView) (cut : Cut) → (a.places.segment ≤ m.places.segment) → StoreDoes m (Cuts cut) n → DecidesAll n b
    → DoesLast m b × (queue_decided b.batched.queue.batches ≡ None) × (segments_left b < segments_left a)
cut_and_decided a m n b cut later does decides =
    let goes = next_is m.places does.2.0 does.2.1 in
    let places = decides.1 ∙ ap (λ (s : StoreView). s.places) does.2.2 in
    let here : b.places.segment ≡ does.2.0 = ap (λ (p : PlacesView). p.segment) places in (
      does_on m n b (one_done m n (Cuts cut) does tt) decides.0,
      decides.2,
      (let next = goes.0 in let small = goes.1 in omega (arith, later, here, next, small)),
    )

-- why it is not
pub not_cut : (why : Refusal) (room : ℕ) (a m b : StoreView) → DoesLast a m → any_failed m ≡ true → CutPost true (Err why) m b
    → WindUpPost (Err why) room a b
not_cut refusals.NoNumber room a m b does failed post = (
  subst (λ s. DoesLast a s) (sym post.1) does,
  inl (subst (λ (s : StoreView). next_segment s.places ≡ None) (sym post.1) post.0),
)
not_cut refusals.Stopped room a m b does failed post = (
  subst (λ s. DoesLast a s) (sym post.1) does,
  inl (subst (λ (s : StoreView). s.batched.queue.stopped ≡ true) (sym post.1) post.0),
)
not_cut refusals.NoCut room a m b does failed post = (
  subst (λ s. DoesLast a s) (sym post.1) does,
  (
    subst (λ (s : StoreView). any_failed s ≡ true) (sym post.1) failed,
    subst (λ (s : StoreView). cut_due s.batched.queue ≡ None) (sym post.1) post.0,
  ),
)
not_cut other room a m b does failed post = absurd post
