-- What the calls come to that bring bytes in, and those that connect and hang up.
use Rattle.sk_durable.proofs.Names.{arith, is_some, ◌≡◌, ◌<◌, ◌≤◌, ◌+◌, ◌-◌, ◌^◌, ◌||◌, ◌&&◌, cond, ℕ, Bool, true}
use Rattle.sk_durable.proofs.Names.{false, List, [], ◌∷◌, ◌++◌, length, take, Option, Some, None, Result, Ok, Err}
use Rattle.sk_durable.proofs.Names.{flat_map, inl, inr, refl, sym, ◌∙◌, ap, subst, list_any, ◌==◌, nat_lt, is_err}
use Rattle.sk_durable.proofs.Names.{append-nil, list_any-append, is_marked, has, marks, tags_at, bytes_cmp, TakesOut}
use Rattle.sk_durable.proofs.Names.{undo_state_of, Stays, Requests, Answer, Work, answer_text, comes_to}
use Rattle.sk_durable.proofs.Names.{names_reserved, Asked, Channel, Ask, Do, OneAsked, FedBytes, Channels, only_posed}
use Rattle.sk_durable.proofs.Names.{posed_ticket, Feeds, HasServed, HoldsWith, channel_at, with_channel, Told}
use Rattle.sk_durable.proofs.Names.{NotDone, LongKey, Full, Memory, End, Asker, error, long_key_words, told_work}
use Rattle.sk_durable.proofs.Names.{work_of, channel_refused, ahead_of, asked_by, batch_for, deed_now, has_now}
use Rattle.sk_durable.proofs.Names.{touched, Batches, CarryPost, IsNotDone, IsTold, asked_for, came, first_answer}
use Rattle.sk_durable.proofs.Names.{Becomes, Goes, HasPast, HavePasts, Past, StoreView, AsksFor, Call, Drops, IsDone}
use Rattle.sk_durable.proofs.Names.{IsFor, LeavesIt, Serves, drops, end_of, is_posed, AnswerPost, has_refused}
use Rattle.sk_durable.proofs.Names.{FreesIfLast, HasNoneReady, LetGoPost, MayFeed, PosedPost, TakePost, TellPost}
use Rattle.sk_durable.proofs.Names.{TryPost, or-false}
use Rattle.std.proofs.lemmas.Bool.Decides.{nat_tests}
use Rattle.std.proofs.Common.{true≢false, IfSome, unwrap_or}
use Rattle.sk_channels.specs.declared.refusal.Refusal.{Refusal as Refused}
use Rattle.sk_channels.specs.declared.refusal.Refusal.TheVariants as channels
use Rattle.sk_durable.specs.declared.store.End.TheVariants as ends
use Rattle.sk_durable.proofs.Ways.{nothing_came, now_there}

-- ---- calls, one after another

pub serves_on : (a m b : StoreView) (cs ds : List Call) → Serves a cs m → Serves m ds b → Serves a (cs ++ ds) b
serves_on a m b [] ds same serves = subst (λ s. Serves s ds b) (sym same) serves
serves_on a m b (c ∷ cs) ds (next, does, rest) serves = (next, does, serves_on next m b cs ds rest serves)

-- ---- answers are dropped

-- these answers of a channel were dropped
pub record AreDropped (t : ℕ) (a b : StoreView) : Type 0 where
  pub answers : List (ℕ × Answer)
  pub serves : Serves a (drops t answers) b

drops_on : (t : ℕ) (answers : List (ℕ × Answer)) (x : ℕ × Answer) → drops t (answers ++ x ∷ []) ≡ drops t answers ++ Drops t x.0 x.1 ∷ []
drops_on t [] x = refl
drops_on t (answer ∷ answers) x = ap (λ cs. Drops t answer.0 answer.1 ∷ cs) (drops_on t answers x)

-- one more is
one_dropped : (t : ℕ) (a b : StoreView) (x : ℕ × Answer) (c : Batches) → AreDropped t a b → channel_at b.channels t ≡ None
    → TakesOut b.batched.kernel.parts t x c.kernel.parts → c ≡ record b.batched { kernel = c.kernel } → AreDropped t a (record b { batched = c })
one_dropped t a b x c dropped gone takes rest = record {
  answers = dropped.answers ++ x ∷ [];
  serves = subst (λ cs. Serves a cs (record b { batched = c })) (sym (drops_on t dropped.answers x))
      (serves_on a b (record b { batched = c }) (drops t dropped.answers) (Drops t x.0 x.1 ∷ []) dropped.serves (
        record b { batched = c },
        (gone, takes, ap (λ (k : Batches). k.queue) rest, ap (λ (k : Batches). k.begun) rest, (refl, refl), refl),
        refl,
      ));
}

pub some_dropped : (t : ℕ) (a b : StoreView) (told : Option (ℕ × Answer)) (c : Batches) → AreDropped t a b → channel_at b.channels t ≡ None → is_some told ≡ true
    → IfSome told (λ x. TakesOut b.batched.kernel.parts t x c.kernel.parts) → c ≡ record b.batched { kernel = c.kernel } → AreDropped t a (record b { batched = c })
some_dropped t a b None c dropped gone some takes rest = absurd (true≢false (sym some))
some_dropped t a b (Some x) c dropped gone some takes rest = one_dropped t a b x c dropped gone takes rest

pub none_is : (told : Option (ℕ × Answer)) → is_some told ≡ false → told ≡ None
none_is None none = refl
none_is (Some x) none = absurd (true≢false none)

pub let_go : (t : ℕ) (a m b : StoreView) → AreDropped t a m → HasNoneReady t m → FreesIfLast t (first_answer m t) m b → LetGoPost t a b
let_go t a m b dropped none frees = (dropped.answers, m, dropped.serves, none, frees)

-- the number stays taken where an answer is left
pub still_taken : (t : ℕ) (first : Option (ℕ × Answer)) (m b : StoreView) → (first ≡ None → ⊥) → b ≡ m → FreesIfLast t first m b
still_taken t None m b some same = absurd (some refl)
still_taken t (Some told) m b some same = same

-- ---- what was asked for is carried out

-- whether a guess is among lists of guesses, one behind another
has_some : {K : Type 0} (g : ℕ) (rests : K → List ℕ) (keys : List K) → has g (flat_map rests keys) ≡ list_any (λ k. has g (rests k)) keys
has_some g rests [] = refl
has_some g rests (k ∷ keys) = list_any-append (λ t. t == g) (rests k) (flat_map rests keys) ∙ ap (λ b. has g (rests k) || b) (has_some g rests keys)

has_mark : (g : ℕ) (batch : Option ℕ) → has g (marks batch) ≡ is_marked batch g
has_mark g None = refl
has_mark g (Some n) = or-false (n == g)

-- what it is asked with, its answer and what it depends on
abbrev pub now_asked : Batches → Asker → List (List ℕ) → Work → Asked
now_asked b asker known work = record (asked_by asker known work) { batch = batch_for b work }

abbrev pub answer_of : Batches → List (List ℕ) → Work → Answer
answer_of b known work = (comes_to known work (has_now b.kernel)).reply

abbrev pub rests_of : Batches → Asker → List (List ℕ) → Work → List ℕ
rests_of b asker known work =
    flat_map (tags_at (undo_state_of bytes_cmp b.kernel.parts)) (touched (deed_now b.kernel (asked_by asker known work))) ++ marks (batch_for b work)

told_of : (b : Batches) (asker : Asker) (known : List (List ℕ)) (work : Work) → IsTold b (now_asked b asker known work) (answer_of b known work) (rests_of b asker known work)
told_of b asker known work = grind (arith, nat_tests, list_any-append, has_some, has_mark)

pub all_stays : (b : Batches) → Stays b b
all_stays b = record { kernel = inl refl; queue = refl; begun = refl }

-- what became of what was asked for, in the batches alone
abbrev pub Comes : Bool → Asker → Ask → Result (Option (List ℕ)) NotDone → Batches → Batches → Type 0
Comes looks asker ask (Ok ahead) b c = (asked : Asked) × (answer : Answer) × (rests : List ℕ) × (asked.channel ≡ asker.channel) × (asked.ticket ≡ asker.ticket)
    × IsDone b ask asked answer rests c × (ahead ≡ ahead_of looks answer)
Comes looks asker ask (Err why) b c = LeavesIt b asker ask why c

module _ (looks : Bool) (asker : Asker) (ask : Ask) (b seen : Batches) (still : Stays b seen) (work : Work) (is_for : IsFor b asker ask work) (free : names_reserved work ≡ false) where
  pub comes : (result : Result (Option (List ℕ)) NotDone) (c : Batches) → CarryPost looks asker work result seen c → Comes looks asker ask result b c
  comes (Ok ahead) c (known, none, carries, is_ahead) = grind (arith, nat_tests, told_of seen asker known work)
  comes (Err why) c not_done = (seen, still, work, is_for, not_done)

-- without memory nothing of it is done
pub no_memory : (looks : Bool) (asker : Asker) (ask : Ask) (b c : Batches) → Stays b c → Comes looks asker ask (Err Memory) b c
no_memory looks asker ask b c still = (b, all_stays b, work_of ask, inl refl, inl still)

-- a key was too long: nothing has changed
pub was_long : (asker : Asker) (ask : Ask) (b c : Batches) (work : Work) → work ≡ work_of ask → IsNotDone LongKey b asker work c → Stays b c × IsFor b asker ask (error long_key_words)
was_long asker ask b c work is (known, knows, long, still) = grind (arith, nat_tests)

pub tried : (looks : Bool) (asker : Asker) (ask : Ask) (result : Result (Option (List ℕ)) NotDone) (a : StoreView) (b : StoreView)
    → Comes looks asker ask result a.batched b.batched → b ≡ record a { batched = b.batched } → TryPost looks asker ask result a b
tried looks asker ask (Ok ahead) a b (asked, answer, rests, channel, ticket, done, is_ahead) same =
    (asked, answer, rests, channel, ticket, done, is_ahead, same)
tried looks asker ask (Err why) a b leaves same = (leaves, same)

-- twice the batches alone were others
pub rest_on : (a m b : StoreView) → m ≡ record a { batched = m.batched } → b ≡ record m { batched = b.batched } → b ≡ record a { batched = b.batched }
rest_on a m b first then = then ∙ ap (λ (s : StoreView). record s { batched = b.batched }) first

-- ---- bytes come

-- what a channel answers and leaves, whatever its past was
abbrev pub IsServed : List ℕ → Result FedBytes Refused → Channel → Channel → Type 0
IsServed bytes result before after = (limits : Requests) (asked : List Ask) (stream : List ℕ) (told : Told) (handed : List ℕ)
    → HasServed limits asked stream told handed before → Feeds limits asked stream told handed bytes result after

past_on : (limits : Requests) (after : Channel) (one : Option OneAsked) (p : Past) (more : List ℕ)
    → HoldsWith (λ asked stream. HasServed limits asked stream p.told p.handed after) p.asked (p.stream ++ more) one
    → (p : Past) × HasPast limits p after
past_on limits after None p more has = (came more p, has)
past_on limits after (Some one) p more has = (asked_for more one.ask p, has.0)

past_of : (limits : Requests) (bytes : List ℕ) (after : Channel) (result : Result FedBytes Refused) (p : Past)
    → Feeds limits p.asked p.stream p.told p.handed bytes result after → (p : Past) × HasPast limits p after
past_of limits bytes after (Ok fed) p post = past_on limits after fed.asked p (take fed.count bytes) post.2
past_of limits bytes after (Err channels.NoTicket) p post = (p, post.0)
past_of limits bytes after (Err channels.Full) p post = absurd post
past_of limits bytes after (Err channels.Memory) p post = (p, post)

-- the channel has some past then
pub has_past : (limits : Requests) (bytes : List ℕ) (before after : Channel) (result : Result FedBytes Refused) → IsServed bytes result before after
    → (p : Past) × HasPast limits p before → (p : Past) × HasPast limits p after
has_past limits bytes before after result served (p, has) =
    past_of limits bytes after result p (served limits p.asked p.stream p.told p.handed has)

module _ (looks : Bool) (t : ℕ) (bytes : List ℕ) (a : StoreView) (before after : Channel) (new : Channels) (may : MayFeed a) (becomes : Becomes t before after a.channels new) where
  abbrev heard : StoreView
  heard = record a { channels = new }

  -- the host is asked there, or not
  pub posed_is : (posed : Bool) → posed ≡ is_some after.inlet.posed → posed ≡ is_posed (channel_at new t)
  posed_is posed is = grind (arith, nat_tests, now_there a.channels t before becomes.there after)

  module _ (fed : FedBytes) (served : IsServed bytes (Ok fed) before after) (have : HavePasts a.limits.requests a.channels) where
    -- so many bytes came
    counts : (fed.count ≤ length bytes) × (0 < length bytes → only_posed fed.asked after.inlet ≡ false → 0 < fed.count)
    counts =
        let was : (p : Past) × HasPast a.limits.requests p before = have t before becomes.there in
        let all = served a.limits.requests was.0.asked was.0.stream was.0.told was.0.handed was.1 in (all.0, all.1)

    hears : fed.asked ≡ None → Goes (came (take fed.count bytes)) before after
    hears none limits p has =
        subst (HoldsWith (λ asked stream. HasServed limits asked stream p.told p.handed after) p.asked (p.stream ++ take fed.count bytes)) none
        (served limits p.asked p.stream p.told p.handed has).2

    asks : (one : OneAsked) → fed.asked ≡ Some one → (limits : Requests) (p : Past) → HasPast limits p before → HasPast limits (asked_for (take fed.count bytes) one.ask p) after × (one.ticket ≡ length p.asked + 1)
    asks one some limits p has =
        subst (HoldsWith (λ asked stream. HasServed limits asked stream p.told p.handed after) p.asked (p.stream ++ take fed.count bytes)) some
        (served limits p.asked p.stream p.told p.handed has).2

    pub part_fed : fed.asked ≡ None → (posed : Bool) → posed ≡ is_some after.inlet.posed
        → TakePost looks t bytes (Ok (record { count = fed.count; end = end_of posed })) a heard
    part_fed none true is = (
      may,
      counts.0,
      (λ more not_asked. absurd (not_asked refl)),
      (((before, after, becomes, hears none), (refl, refl, refl)), ap end_of (posed_is true is), refl),
    )
    part_fed none false is = (
      may,
      counts.0,
      (λ more not_asked. counts.1 more (ap (λ asked. only_posed asked after.inlet) none ∙ sym is)),
      (((before, after, becomes, hears none), (refl, refl, refl)), ap end_of (posed_is false is), refl),
    )

    some_fed : (one : OneAsked) → fed.asked ≡ Some one → 0 < length bytes → 0 < fed.count
    some_fed one some more = counts.1 more (ap (λ asked. only_posed asked after.inlet) some)

    asks_for : (one : OneAsked) → fed.asked ≡ Some one → AsksFor (take fed.count bytes) one.ask one.ticket t a heard
    asks_for one some =
        (before, after, becomes, (λ limits p has. (asks one some limits p has).0), (λ limits p has. (asks one some limits p has).1))

    -- what they ask for is answered
    pub all_fed : (one : OneAsked) → fed.asked ≡ Some one → (end : End) (b : StoreView) → AnswerPost looks (record { channel = t; ticket = one.ticket }) one.ask end heard b
        → TakePost looks t bytes (Ok (record { count = fed.count; end = end })) a b
    all_fed one some ends.Part b post = absurd post
    all_fed one some ends.Asked b post = absurd post
    all_fed one some ends.Done b (asked, answer, rests, channel, ticket, done, same) = (
      may,
      counts.0,
      (λ more done. some_fed one some more),
      (
        one.ask,
        asked,
        answer,
        rests,
        (
          may.0,
          sym channel,
          subst (λ n. AsksFor (take fed.count bytes) one.ask n t a b) (sym ticket) (subst (λ s. AsksFor (take fed.count bytes) one.ask one.ticket t a s) (sym same) (asks_for one some)),
          done,
          (ap (λ (s : StoreView). s.limits) same, ap (λ (s : StoreView). s.places) same),
        ),
        ap (λ (s : StoreView). s.ahead) same,
      ),
    )
    all_fed one some (ends.NotDone why) b (leaves, same) = (
      may,
      counts.0,
      (λ more done. some_fed one some more),
      (
        one.ask,
        one.ticket,
        (
          subst (λ s. AsksFor (take fed.count bytes) one.ask one.ticket t a s) (sym same) (asks_for one some),
          leaves,
          (ap (λ (s : StoreView). s.limits) same, ap (λ (s : StoreView). s.places) same),
        ),
        ap (λ (s : StoreView). s.ahead) same,
      ),
    )

  -- no more came
  pub not_fed : (why : Refused) → IsServed bytes (Err why) before after → HavePasts a.limits.requests a.channels → TakePost looks t bytes (Err (channel_refused why)) a heard
  not_fed channels.NoTicket served have = (
    may,
    (before, becomes.there, λ limits p has. (served limits p.asked p.stream p.told p.handed has).1),
    ((before, after, becomes, nothing_came before after (λ limits p has. (served limits p.asked p.stream p.told p.handed has).0)), (refl, refl, refl)),
  )
  not_fed channels.Full served have =
      let was : (p : Past) × HasPast a.limits.requests p before = have t before becomes.there in
      absurd (served a.limits.requests was.0.asked was.0.stream was.0.told was.0.handed was.1)
  not_fed channels.Memory served have =
      (may, ((before, after, becomes, nothing_came before after (λ limits p has. served limits p.asked p.stream p.told p.handed has)), (refl, refl, refl)))

-- ---- what the host told

-- a ticket is given where the host is asked, and it is the next
pub given_ticket : (some : Bool) (next ticket : ℕ) → cond some (Some next) None ≡ Some ticket → (some ≡ true) × (ticket ≡ next)
given_ticket true next ticket is = (refl, sym (ap (λ (o : Option ℕ). unwrap_or o next) is))
given_ticket false next ticket is = cc

-- what is carried out only replies what it told
told_is : (b : Batches) (asker : Asker) (text : List ℕ) (work : Work) → IsFor b asker (Do (told_work text)) work → work ≡ told_work text
told_is b asker text work (inl is) = is
told_is b asker text work (inr (is, (known, knows, long))) = cc

told_reply : (b : Batches) (text : List ℕ) (asked : Asked) (answer : Answer) (rests : List ℕ) (c : Batches)
    → IsDone b (Do (told_work text)) asked answer rests c → answer_text answer ≡ text
told_reply b text asked answer rests c done = grind (arith, nat_tests, told_is b)

-- a text is told to a channel, whatever its past was
abbrev pub IsToldTo : Channel → Channel → Type 0
IsToldTo before after = (limits : Requests) (asked : List Ask) (stream : List ℕ) (told : Told) (handed text : List ℕ)
    → HasServed limits asked stream told handed before
    → HasServed limits (asked ++ Do (told_work text) ∷ []) stream told handed after

-- the channel has some past then
pub told_past : (limits : Requests) (before after : Channel) → IsToldTo before after → (p : Past) × HasPast limits p before
    → (p : Past) × HasPast limits p after
told_past limits before after tells (p, has) = (
  asked_for [] (Do (told_work [])) p,
  subst (λ stream. HasServed limits (p.asked ++ Do (told_work []) ∷ []) stream p.told p.handed after) (sym (append-nil p.stream))
      (tells limits p.asked p.stream p.told p.handed [] has),
)

-- the channel that is asked is the one that is there
pub posed_there : (t ticket : ℕ) (a : StoreView) (before : Channel) → PosedPost t (Ok ticket) a → channel_at a.channels t ≡ Some before
    → posed_ticket before.inlet ≡ Some ticket
posed_there t ticket a before (channel, there, posed) here = grind (arith, nat_tests)

-- it was carried out
pub was_done : (looks : Bool) (asker : Asker) (work : Work) (result : Result (Option (List ℕ)) NotDone) (b c : Batches)
    → false ≡ is_err result → CarryPost looks asker work result b c → (ahead : Option (List ℕ)) × CarryPost looks asker work (Ok ahead) b c
was_done looks asker work (Ok ahead) b c is post = (ahead, post)
was_done looks asker work (Err why) b c is post = absurd (true≢false (sym is))

module _ (t : ℕ) (text : List ℕ) (a m : StoreView) (before after : Channel) (ticket : ℕ) where
  abbrev told_ask : Ask
  told_ask = Do (told_work text)

  abbrev left : StoreView
  left = record a { batched = m.batched; channels = with_channel a.channels t after }

  -- its request has the ticket that is the next
  is_asked : IsToldTo before after → posed_ticket before.inlet ≡ Some ticket → Becomes t before after a.channels left.channels
      → AsksFor [] told_ask ticket t a left
  is_asked tells posed becomes = (
    before,
    after,
    becomes,
    (λ limits p has. subst (λ stream. HasServed limits (p.asked ++ told_ask ∷ []) stream p.told p.handed after) (sym (append-nil p.stream))
        (tells limits p.asked p.stream p.told p.handed text has)),
    (λ limits p has.
        (given_ticket (is_some before.inlet.posed && nat_lt before.inlet.next (2 ^ 64 - 1)) before.inlet.next ticket posed).1
        ∙ has.heard.tickets),
  )

  pub all_told : (ahead : Option (List ℕ)) → has_refused a ≡ false → channel_at a.channels t ≡ Some before
      → posed_ticket before.inlet ≡ Some ticket
      → CarryPost false (record { channel = t; ticket = ticket }) (told_work text) (Ok ahead) a.batched m.batched
      → IsToldTo before after → after.inlet.posed ≡ None → after.outlet.most ≡ before.outlet.most
      → TellPost t text (Ok tt) a left
  all_told ahead none there posed carries tells idle most =
      let asker : Asker = record { channel = t; ticket = ticket } in
      let all : Comes false asker told_ask (Ok ahead) a.batched m.batched = comes false asker told_ask a.batched a.batched
      (all_stays a.batched) (told_work text) (inl refl) refl (Ok ahead) m.batched carries in
      let asked : Asked = all.0 in
      let answer : Answer = all.1 in
      let rests : List ℕ = all.2 in
      let becomes : Becomes t before after a.channels left.channels = record { there = there; left = refl; most = most } in
      let here : channel_at left.channels t ≡ Some after = now_there a.channels t before there after in (
        asked,
        answer,
        rests,
        (
          none,
          sym all.3,
          subst (λ n. AsksFor [] told_ask n t a left) (sym all.4) (is_asked tells posed becomes),
          all.5,
          (refl, refl),
        ),
        told_reply a.batched text asked answer rests m.batched all.5,
        (before, there, subst (λ n. posed_ticket before.inlet ≡ Some n) (sym all.4) posed),
        ap is_posed here ∙ ap (λ (p : Option (List (List ℕ))). is_some p) idle,
      )
