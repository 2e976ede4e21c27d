-- What calls on the way out come to, and calls of the log.
use Rattle.sk_durable.proofs.Names.{◌≡◌, ◌≢◌, ℕ, ◌+◌, ◌-◌, ◌<◌, ◌≤◌, ◌^◌, Bool, true, false, List, [], ◌∷◌, ◌++◌}
use Rattle.sk_durable.proofs.Names.{length, drop, take, min, Option, Some, None, Result, Ok, Err, refl, sym, ◌∙◌, ap}
use Rattle.sk_durable.proofs.Names.{subst, inl, inr, arith, ◌⊎◌, nat_le, unwrap_or, IfSome, if◌then◌else◌, option_map}
use Rattle.sk_durable.proofs.Names.{nat_tests, append-nil, append_cancel_left, map-append, released, Tagged, said_at}
use Rattle.sk_durable.proofs.Names.{first_of, TakesOut, Parts, WordPost, next_segment, PlacesView, Stage, Synced}
use Rattle.sk_durable.proofs.Names.{Failed, Cut, Queued, Channel, Ask, Table, HasServed, RefusePost, ReplyPost}
use Rattle.sk_durable.proofs.Names.{channel_at, with_channel, Told, Answer, answer_text, Requests, Refusal, NoChannel}
use Rattle.sk_durable.proofs.Names.{NoTicket, DecisionDue, channel_refused, Batches, bound, first_answer}
use Rattle.sk_durable.proofs.Names.{has_refusals, was_handed, was_refused, was_told, Becomes, HasPast, HavePasts}
use Rattle.sk_durable.proofs.Names.{Past, StoreView, Call, Cuts, Drops, Frees, Hands, Refuses, Tells, Does, Passes}
use Rattle.sk_durable.proofs.Names.{SameBatches, Serves, drops, tells, AllByRecursion, BringPost, CutPost, FreesIfLast}
use Rattle.sk_durable.proofs.Names.{HandsOver, HasNoneReady, HoldsTooMany, IsHeldUp, IsReady, IsStray, LearnPost}
use Rattle.sk_durable.proofs.Names.{LetGoPost, LetsGo, ReadyPost, RefusedPost, StopsThere, Sweeps, TurnPost}
use Rattle.std.specs.List.{slice_get}
use Rattle.sk_batches.specs.Calls as queued
use Rattle.sk_batches.specs.Places as places
use Rattle.sk_batched.specs.Batched as batched
use Rattle.sk_channels.specs.declared.refusal.Refusal.{Refusal as Channels}
use Rattle.sk_channels.specs.declared.refusal.Refusal.TheVariants as channels
use Rattle.sk_durable.specs.declared.refusal.Refusal.TheVariants.{Full, Memory}
use Rattle.sk_durable.proofs.Names.{cond, ◌==◌, OutputPost}
use Rattle.sk_durable.specs.Posts.{moved}
use Rattle.sk_durable.proofs.Ways.{now_there, past_goes}

-- ---- calls one after another

passes_there : (change : Past → Past) (t : ℕ) (a b : StoreView) → Passes change t a b
    → (c : Channel) × (channel_at b.channels t ≡ Some c)
passes_there change t a b (before, after, becomes, goes) =
    (after, ap (λ table. channel_at table t) becomes.left ∙ now_there a.channels t before becomes.there after)

serves_append : (a : StoreView) (cs ds : List Call) (m b : StoreView) → Serves a cs m → Serves m ds b
    → Serves a (cs ++ ds) b
serves_append a [] ds m b is rest = subst (λ x. Serves x ds b) (sym is) rest
serves_append a (c ∷ cs) ds m b (x, does, serves) rest = (x, does, serves_append x cs ds m b serves rest)

pub tells_more : (t k : ℕ) (answer : Answer) (a m b : StoreView) (xs : List (ℕ × Answer)) → Serves a (tells t xs) m
    → Does m (Tells t k answer) b → Serves a (tells t (xs ++ (k, answer) ∷ [])) b
tells_more t k answer a m b xs serves does =
    subst (λ cs. Serves a cs b) (sym (map-append (λ (x : ℕ × Answer). Tells t x.0 x.1) xs ((k, answer) ∷ [])))
    (serves_append a (tells t xs) (Tells t k answer ∷ []) m b serves (b, does, refl))

-- where something was told there is the channel
tells_there : (t : ℕ) (a m : StoreView) (x : ℕ × Answer) (xs : List (ℕ × Answer)) → Serves a (tells t (x ∷ xs)) m
    → (c : Channel) × (channel_at m.channels t ≡ Some c)
tells_there t a m x [] (s, does, is) = subst (λ (u : StoreView). (c : Channel) × (channel_at u.channels t ≡ Some c)) is
    (passes_there (was_told x.0 (answer_text x.1)) t a s does.1)
tells_there t a m x (y ∷ ys) (s, does, serves) = tells_there t s m y ys serves

-- ---- answers are told

abbrev Parted : Type 0
Parted = Parts (List ℕ) (List ℕ) (ℕ × Answer)

abbrev Said : Type 0
Said = List (Tagged (ℕ × (ℕ × Answer)))

-- the answer that is next, if one may go out
abbrev pub next_of : List (ℕ × (ℕ × Answer)) → Option (ℕ × Answer)
next_of xs = option_map (λ (w : ℕ × (ℕ × Answer)). w.1) (slice_get xs 0)

pub none_next : (xs : List (ℕ × (ℕ × Answer))) → None ≡ next_of xs → xs ≡ []
none_next [] is = refl
none_next (x ∷ xs) is = cc

-- what is next is the first
pub next_first : (xs : Said) (told : ℕ × Answer) → Some told ≡ next_of (released xs) → first_of xs ≡ Some told
next_first [] told is = cc
next_first ((x, []) ∷ xs) told is = sym is
next_first ((x, g ∷ gs) ∷ xs) told is = cc

-- and that is taken out
pub taken_out : (a b : Parted) (t : ℕ) (told : ℕ × Answer) (result : Option (ℕ × Answer))
    → Some told ≡ next_of (released (said_at a.said t))
    → IfSome result (λ output. TakesOut a t output b) → (result ≡ None → released (said_at a.said t) ≡ [])
    → TakesOut a t told b
taken_out a b t told None next some held = grind (arith, nat_tests)
taken_out a b t told (Some output) next some held = grind (arith, nat_tests)

-- a channel is as it was, or another one, with what else is as it was
abbrev IsLent : ℕ → Channel → Channel → StoreView → StoreView → Type 0
IsLent t before after a b = (channel_at a.channels t ≡ Some before) × (b.channels ≡ with_channel a.channels t after)
    × (after.outlet.most ≡ before.outlet.most)

same_there : (table : Table) (t : ℕ) (c d : Channel) → channel_at table t ≡ Some c → channel_at table t ≡ Some d → c ≡ d
same_there table t c d one two = cc

module _ (a b : StoreView) (t : ℕ) (before after : Channel) (lent : IsLent t before after a b) where
  becomes : Becomes t before after a.channels b.channels
  becomes = record { there = lent.0; left = lent.1; most = lent.2 }

  -- an answer is told, and taken out
  pub tells_one : (ticket : ℕ) (text : List ℕ) (told : ℕ × Answer) (unit : Unit {0}) → ticket ≡ told.0
      → text ≡ answer_text told.1
      → ((limits : Requests) (asked : List Ask) (stream : List ℕ) (says : Told) (handed : List ℕ)
      → HasServed limits asked stream says handed before
      → ReplyPost limits asked stream says handed ticket text (Ok unit) after)
      → TakesOut a.batched.kernel.parts t told b.batched.kernel.parts
      → b.batched ≡ record a.batched { kernel = b.batched.kernel }
      → b.limits ≡ a.limits → b.places ≡ a.places → Does a (Tells t told.0 told.1) b
  tells_one ticket text told unit for of replied takes rest limits_are places_are =
      let says : (limits : Requests) (asked : List Ask) (stream : List ℕ) (says : Told) (handed : List ℕ)
      → HasServed limits asked stream says handed before
      → ReplyPost limits asked stream says handed told.0 (answer_text told.1) (Ok unit) after =
      λ limits asked stream says handed has.
      subst (λ k. ReplyPost limits asked stream says handed k (answer_text told.1) (Ok unit) after) for
      (subst (λ bytes. ReplyPost limits asked stream says handed ticket bytes (Ok unit) after) of
      (replied limits asked stream says handed has)) in (
        λ channel limits p there has.
            let h = says limits p.asked p.stream p.told p.handed
            (subst (λ c. HasPast limits p c) (same_there a.channels t channel before there lent.0) has) in
            (h.0, h.1),
        (before, after, becomes, λ limits p has. (says limits p.asked p.stream p.told p.handed has).2),
        takes,
        ap (λ (x : Batches). x.queue) rest,
        ap (λ (x : Batches). x.begun) rest,
        (limits_are, places_are),
      )

  -- nothing is told of it
  pub hands_none : ((limits : Requests) (p : Past) → HasPast limits p before → HasPast limits p after) → SameBatches a b
      → Does a (Hands t []) b
  hands_none has same = (
    (
      before,
      after,
      becomes,
      λ limits p was. subst (λ bytes. HasServed limits p.asked p.stream p.told bytes after)
          (sym (append-nil p.handed)) (has limits p was),
    ),
    same,
  )

  -- bytes are handed over
  pub hands_over : (count : ℕ) (room filled : List ℕ)
      → ((limits : Requests) (asked : List Ask) (stream : List ℕ) (told : Told) (handed : List ℕ)
      → HasServed limits asked stream told handed before
      → HasServed limits asked stream told (handed ++ take count filled) after)
      → count ≡ min (length room) (length before.outlet.waiting) → drop count filled ≡ drop count room → SameBatches a b
      → HandsOver t count room filled a b
  hands_over count room filled handed is behind same = (
    ((before, after, becomes, λ limits p has. handed limits p.asked p.stream p.told p.handed has), same),
    behind,
    λ channel there. is ∙ ap (λ (c : Channel). min (length room) (length c.outlet.waiting))
        (same_there a.channels t before channel lent.0 there),
  )

  -- nothing more waits where no more was told
  still_waits : (limits : Requests) (p : Past) → HasPast limits p before → HasPast limits p after
      → after.outlet.waiting ≡ before.outlet.waiting
  still_waits limits p old new =
      append_cancel_left p.handed after.outlet.waiting before.outlet.waiting (new.said.bytes ∙ sym old.said.bytes)

  too_many_wait : (limits : Requests) (p : Past) → HasPast limits p before → HasPast limits p after
      → after.outlet.most < length after.outlet.waiting → HoldsTooMany t a
  too_many_wait limits p old new many =
      (before, lent.0, (let same = ap length (still_waits limits p old new) in omega (arith, many, same, lent.2)))

  -- an answer is not told
  pub not_replied : (limits : Requests) (past : (p : Past) × HasPast limits p before) (ticket : ℕ) (text : List ℕ)
      (told : ℕ × Answer) (why : Channels) → ticket ≡ told.0 → first_answer a t ≡ Some told
      → ((limits : Requests) (asked : List Ask) (stream : List ℕ) (says : Told) (handed : List ℕ)
      → HasServed limits asked stream says handed before
      → ReplyPost limits asked stream says handed ticket text (Err why) after)
      → SameBatches a b → IsHeldUp (channel_refused why) t a × StopsThere (channel_refused why) t a b
  not_replied limits (p, has) ticket text told channels.NoTicket for first replied same = (
    (
      told,
      first,
      before,
      lent.0,
      λ limits p has. subst (λ k. (k ≤ length p.told) ⊎ (length p.asked < k)) for
          (replied limits p.asked p.stream p.told p.handed has).1,
    ),
    hands_none (λ limits p has. (replied limits p.asked p.stream p.told p.handed has).0) same,
  )
  not_replied limits (p, has) ticket text told channels.Full for first replied same =
      let full = replied limits p.asked p.stream p.told p.handed has in (
        too_many_wait limits p has full.0 full.1,
        hands_none (λ limits p has. (replied limits p.asked p.stream p.told p.handed has).0) same,
      )
  not_replied limits (p, has) ticket text told channels.Memory for first replied same =
      (tt, hands_none (λ limits p has. replied limits p.asked p.stream p.told p.handed has) same)

  -- ---- tickets are told that nothing was done

  pub refuses_one : (ticket : ℕ) (unit : Unit {0}) → ticket ≡ bound before (first_answer a t)
      → ((limits : Requests) (asked : List Ask) (stream : List ℕ) (says : Told) (handed : List ℕ)
      → HasServed limits asked stream says handed before
      → RefusePost limits asked stream says handed ticket (Ok unit) after)
      → SameBatches a b → Does a (Refuses t ticket) b
  refuses_one ticket unit is refused same = (
    (before, lent.0, is),
    (
      before,
      after,
      becomes,
      λ limits p has. (refused limits p.asked p.stream p.told p.handed has).1,
    ),
    same,
  )

  -- no ticket from the next that is given on is that of an answer
  stray : (limits : Requests) (past : (p : Past) × HasPast limits p before) (ticket : ℕ) (first : Option (ℕ × Answer))
      → first_answer a t ≡ first → ticket ≡ bound before first
      → ((limits : Requests) (p : Past) → HasPast limits p before → length p.asked + 1 < ticket) → IsStray t a
  stray limits (p, has) ticket None first is given =
      absurd (let above = given limits p has in omega (arith, is, above, has.heard.tickets))
  stray limits past ticket (Some told) first is given =
      (told, first, before, lent.0, λ limits p has. inr (let above = given limits p has in omega (arith, above, is)))

  pub not_refused : (limits : Requests) (past : (p : Past) × HasPast limits p before) (ticket : ℕ) (why : Channels)
      → ticket ≡ bound before (first_answer a t)
      → ((limits : Requests) (asked : List Ask) (stream : List ℕ) (says : Told) (handed : List ℕ)
      → HasServed limits asked stream says handed before
      → RefusePost limits asked stream says handed ticket (Err why) after)
      → SameBatches a b → IsHeldUp (channel_refused why) t a × StopsThere (channel_refused why) t a b
  not_refused limits past ticket channels.NoTicket is refused same = (
    stray limits past ticket (first_answer a t) refl is
        (λ limits p has. (refused limits p.asked p.stream p.told p.handed has).1),
    hands_none (λ limits p has. (refused limits p.asked p.stream p.told p.handed has).0) same,
  )
  not_refused limits (p, has) ticket channels.Full is refused same =
      let full = refused limits p.asked p.stream p.told p.handed has in (
        too_many_wait limits p has full.0 full.1,
        hands_none (λ limits p has. (refused limits p.asked p.stream p.told p.handed has).0) same,
      )
  not_refused limits past ticket channels.Memory is refused same =
      (tt, hands_none (λ limits p has. refused limits p.asked p.stream p.told p.handed has) same)

-- each channel has some past after what was told of one, or of none
module _ (limits : Requests) (old : Table) (t : ℕ) (before after : Channel) (have : HavePasts limits old)
    (there : channel_at old t ≡ Some before) (most : after.outlet.most ≡ before.outlet.most) where
  gone_on : (change : Past → Past)
      → ((limits : Requests) (p : Past) → HasPast limits p before → HasPast limits (change p) after)
      → HavePasts limits (with_channel old t after)
  gone_on change goes = past_goes limits t before after old (with_channel old t after) change have
      (record { there = there; left = refl; most = most }) goes

  pub replied_pasts : (ticket : ℕ) (text : List ℕ) (result : Result (Unit {0}) Channels)
      → ((limits : Requests) (asked : List Ask) (stream : List ℕ) (says : Told) (handed : List ℕ)
      → HasServed limits asked stream says handed before
      → ReplyPost limits asked stream says handed ticket text result after)
      → HavePasts limits (with_channel old t after)
  replied_pasts ticket text (Ok unit) replied =
      gone_on (was_told ticket text) (λ limits p has. (replied limits p.asked p.stream p.told p.handed has).2)
  replied_pasts ticket text (Err channels.NoTicket) replied =
      gone_on (λ p. p) (λ limits p has. (replied limits p.asked p.stream p.told p.handed has).0)
  replied_pasts ticket text (Err channels.Full) replied =
      gone_on (λ p. p) (λ limits p has. (replied limits p.asked p.stream p.told p.handed has).0)
  replied_pasts ticket text (Err channels.Memory) replied =
      gone_on (λ p. p) (λ limits p has. replied limits p.asked p.stream p.told p.handed has)

  pub refused_pasts : (ticket : ℕ) (result : Result (Unit {0}) Channels)
      → ((limits : Requests) (asked : List Ask) (stream : List ℕ) (says : Told) (handed : List ℕ)
      → HasServed limits asked stream says handed before
      → RefusePost limits asked stream says handed ticket result after) → HavePasts limits (with_channel old t after)
  refused_pasts ticket (Ok unit) refused =
      gone_on (was_refused ticket) (λ limits p has. (refused limits p.asked p.stream p.told p.handed has).1)
  refused_pasts ticket (Err channels.NoTicket) refused =
      gone_on (λ p. p) (λ limits p has. (refused limits p.asked p.stream p.told p.handed has).0)
  refused_pasts ticket (Err channels.Full) refused =
      gone_on (λ p. p) (λ limits p has. (refused limits p.asked p.stream p.told p.handed has).0)
  refused_pasts ticket (Err channels.Memory) refused =
      gone_on (λ p. p) (λ limits p has. refused limits p.asked p.stream p.told p.handed has)

  pub handed_pasts : (bytes : List ℕ)
      → ((limits : Requests) (asked : List Ask) (stream : List ℕ) (told : Told) (handed : List ℕ)
      → HasServed limits asked stream told handed before
      → HasServed limits asked stream told (handed ++ bytes) after) → HavePasts limits (with_channel old t after)
  handed_pasts bytes handed =
      gone_on (was_handed bytes) (λ limits p has. handed limits p.asked p.stream p.told p.handed has)

-- the ticket of the first answer, or the next that is given
pub bound_is : (channel : Channel) (first : Option (ℕ × Answer))
    → unwrap_or (option_map (λ (told : ℕ × Answer). told.0) first) channel.inlet.next ≡ bound channel first
bound_is channel None = refl
bound_is channel (Some told) = refl

-- ---- what was brought

some_none : {X : Type 0} (o : Option X) (x : X) → o ≡ Some x → o ≡ None → ⊥
some_none o x one two = cc

stopped_there : (t : ℕ) (a b : StoreView) → Does a (Hands t []) b → channel_at b.channels t ≡ None → ⊥
stopped_there t a b does none = let there =
    passes_there (was_handed []) t a b does.0 in some_none (channel_at b.channels t) there.0 there.1 none

-- where there is no channel nothing was
pub none_brought : (t : ℕ) (brought : Result (Unit {0}) Refusal) (a b : StoreView) → BringPost t brought a b
    → channel_at b.channels t ≡ None → b ≡ a
none_brought t (Ok unit) a b (answers, m, ticket, serves, ready, refuses) none =
    let there = passes_there (was_refused ticket) t m b refuses.1 in absurd
    (some_none (channel_at b.channels t) there.0 there.1 none)
none_brought t (Err NoChannel) a b ([], m, serves, held, stops) none = stops ∙ sym serves
none_brought t (Err NoChannel) a b (x ∷ xs, m, serves, held, stops) none =
    let there = tells_there t a m x xs serves in absurd (some_none (channel_at m.channels t) there.0 there.1 held)
none_brought t (Err DecisionDue) a b (answers, m, serves, held, stops) none = absurd held
none_brought t (Err why) a b (answers, m, serves, held, stops) none = absurd (stopped_there t m b stops none)

pub there_brought : (t : ℕ) (brought : Result (Unit {0}) Refusal) (a b : StoreView) (c : Channel)
    → BringPost t brought a b → channel_at b.channels t ≡ Some c → brought ≢ Err NoChannel
there_brought t (Err NoChannel) a b c (answers, m, serves, held, stops) there is =
    some_none (channel_at m.channels t) c (ap (λ (s : StoreView). channel_at s.channels t) (sym stops) ∙ there) held
there_brought t (Ok unit) a b c post there is = cc
there_brought t (Err why) a b c post there is = cc

-- what is told of it is want of memory just where nothing was moved out for that
pub moved_out : (t count : ℕ) (brought : Result (Unit {0}) Refusal) (room filled : List ℕ) (a m b : StoreView) → brought ≢ Err NoChannel
    → BringPost t brought a m → HandsOver t count room filled m b → OutputPost t (moved brought count) room filled a b
moved_out t count (Err Memory) room filled a m b is post hands =
    elim (count == 0) as (λ empty. (count == 0) ≡ empty → OutputPost t (cond empty (Err Memory) (Ok count)) room filled a b) [
      | true ↦ λ e. let none : count ≡ 0 = grind (arith, nat_tests, e) in (m, post, subst (λ n. HandsOver t n room filled m b) none hands)
      | false ↦ λ e. let some : 0 < count = grind (arith, nat_tests, e) in (Err Memory, is, m, post, hands, λ _. some)
    ] refl
moved_out t count (Ok unit) room filled a m b is post hands = (Ok unit, is, m, post, hands, λ e. cc)
moved_out t count (Err why) room filled a m b is post hands = (Err why, is, m, post, hands, λ e. cc)

-- ---- what is let go of

drops_let_go : (t : ℕ) (xs : List (ℕ × Answer)) → AllByRecursion LetsGo (drops t xs)
drops_let_go t [] = tt
drops_let_go t (x ∷ xs) = (tt, drops_let_go t xs)

all_append : (cs ds : List Call) → AllByRecursion LetsGo cs → AllByRecursion LetsGo ds → AllByRecursion LetsGo (cs ++ ds)
all_append [] ds all more = more
all_append (c ∷ cs) ds (lets, all) more = (lets, all_append cs ds all more)

pub sweeps_on : (a m b : StoreView) → Sweeps a m → Sweeps m b → Sweeps a b
sweeps_on a m b (cs, serves, all) (ds, more, rest) =
    (cs ++ ds, serves_append a cs ds m b serves more, all_append cs ds all rest)

pub let_go_sweeps : (t : ℕ) (a b : StoreView) → LetGoPost t a b → Sweeps a b
let_go_sweeps t a b (answers, m, serves, none, frees) = by_first (first_answer m t) frees where
  by_first : (first : Option (ℕ × Answer)) → FreesIfLast t first m b → Sweeps a b
  by_first None frees = (
    drops t answers ++ Frees t ∷ [],
    serves_append a (drops t answers) (Frees t ∷ []) m b serves (b, frees, refl),
    all_append (drops t answers) (Frees t ∷ []) (drops_let_go t answers) (tt, tt),
  )
  by_first (Some told) same =
      (drops t answers, subst (λ s. Serves a (drops t answers) s) (sym same) serves, drops_let_go t answers)

-- where nothing may go out nothing is dropped
none_ready_then : (a b : StoreView) (c : Call) → Does a c b → LetsGo c → ((t : ℕ) → HasNoneReady t a) → (t : ℕ)
    → HasNoneReady t b
none_ready_then a b (Drops u ticket answer) does lets none t = grind (arith, nat_tests)
none_ready_then a b (Frees u) does lets none t = grind (arith, nat_tests)
none_ready_then a b other does lets none t = absurd lets

none_ready_after : (a b : StoreView) (cs : List Call) → Serves a cs b → AllByRecursion LetsGo cs → ((t : ℕ) → HasNoneReady t a)
    → (t : ℕ) → HasNoneReady t b
none_ready_after a b [] is all none t = subst (λ s. HasNoneReady t s) is (none t)
none_ready_after a b (c ∷ cs) (m, does, serves) (lets, all) none t =
    none_ready_after m b cs serves all (none_ready_then a m c does lets none) t

none_ready_on : (a b : StoreView) → Sweeps a b → ((t : ℕ) → HasNoneReady t a) → (t : ℕ) → HasNoneReady t b
none_ready_on a b (cs, serves, all) none = none_ready_after a b cs serves all none

-- ---- channels with tickets that are told that nothing was done

ready_refused : (t : ℕ) (s : StoreView) → has_refusals (channel_at s.channels t) (first_answer s t) ≡ true
    → IsReady t s
ready_refused t s is = by_place (channel_at s.channels t) refl is where
  by_place : (place : Option Channel) → channel_at s.channels t ≡ place → has_refusals place (first_answer s t) ≡ true
      → IsReady t s
  by_place None there is = absurd (cc)
  by_place (Some c) there is = (c, there, inl is)

-- where no answer may go out a channel is ready that has such tickets
pub ready_on : (result : Option ℕ) (first a b : StoreView) → Sweeps first a → ((t : ℕ) → HasNoneReady t a)
    → RefusedPost result a b → ReadyPost result first b
ready_on None first a b sweeps none post = (sweeps_on first a b sweeps post, none_ready_on a b post none)
ready_on (Some t) first a b sweeps none (more, is) = (sweeps_on first a b sweeps more, ready_refused t b is)

-- ---- the log

no_more : (n : ℕ) → n < 2 ^ 28 → nat_le (2 ^ 28) n ≡ false
no_more n lt = grind (arith, nat_tests)

too_many : (n : ℕ) → 2 ^ 28 ≤ n → nat_le (2 ^ 28) n ≡ true
too_many n le = grind (arith, nat_tests)

next_is : (p : PlacesView) → p.segment + 1 < 2 ^ 28 → next_segment p ≡ Some (p.segment + 1)
next_is p lt = ap (λ (b : Bool). if b then None else Some (p.segment + 1)) (no_more (p.segment + 1) lt)

none_is : (p : PlacesView) → 2 ^ 28 ≤ p.segment + 1 → next_segment p ≡ None
none_is p le = ap (λ (b : Bool). if b then None else Some (p.segment + 1)) (too_many (p.segment + 1) le)

-- the log goes on in the next segment
pub turns : (result : Result (Unit {0}) Queued) (a : StoreView) (p : PlacesView)
    → places.TurnPost false result a.places p → TurnPost result a (record a { places = p })
turns (Ok unit) a p (lt, is) = grind (arith, nat_tests, next_is a.places lt)
turns (Err why) a p (le, is, same) = (none_is a.places le, is, ap (λ (q : PlacesView). record a { places = q }) same)

-- a frame is told of
pub learns : (stage : Stage) (frame : ℕ) (result : Result (Unit {0}) Queued) (a : StoreView) (b : Batches)
    → (stage ≡ Synced) ⊎ (stage ≡ Failed)
    → WordPost stage result frame a.batched.queue b.queue → b ≡ record a.batched { queue = b.queue }
    → LearnPost stage frame result a (record a { batched = b })
learns stage frame (Ok unit) a b of (none, is) rest = grind (arith, nat_tests)
learns stage frame (Err why) a b of (some, is) rest = grind (arith, nat_tests)

-- the cut that is due is made, and the log goes on in the next segment
pub cuts : (a : StoreView) (b : Batches) (p : PlacesView) (unit one : Unit {0})
    → queued.CutPost true (Ok unit) a.batched.queue b.queue → b ≡ record a.batched { queue = b.queue }
    → places.TurnPost true (Ok one) a.places p → (cut : Cut) × Does a (Cuts cut) (record a { batched = b; places = p })
cuts a b p unit one (running, cut, due, is) rest (lt, turned) = grind (arith, nat_tests, next_is a.places lt)
