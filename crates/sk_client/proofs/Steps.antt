-- Where a world begins, and the laws of worlds, told of a world's calls.
pub mod Kept
pub use Kept.*
use Rattle.sk_client.proofs.Names.{answered}
use Rattle.sk_trace.specs.declared.event.Event.TheVariants.{Step}

-- ======== Where a world begins, and what its requests' steps are.

each_all : {A B : Type 0} (X : A → B → Type 0) (xs : List A) (ys : List B) → ((x : A) (y : B) → Contains xs x → X x y) → Each X xs ys
each_all X [] ys h = tt
each_all X (x ∷ xs) [] h = tt
each_all X (x ∷ xs) (y ∷ ys) h = (h x y (cons_first x xs), each_all X xs ys (λ z w there. h z w (cons_later x xs z there)))

once_before : (ns : List Caused) → ((n : Caused) → Contains ns n → n.cause ≡ Before) → Once ns
once_before [] h = tt
once_before (n ∷ ns) h = ((λ o there q r n_is o_is same. (let both : Before ≡ For q = sym (h n (cons_first n ns)) ∙ n_is in cc)), once_before ns (λ o there. h o (cons_later n ns o there)))

pub rising_places : (xs : List Served) (zs : List PendingRequest) → Rising (map (λ x. x.0) xs ++ zs) → (i j : ℕ) (x y : Served) → slice_get xs i ≡ Some x → slice_get xs j ≡ Some y
    → x.0.number ≡ y.0.number → i ≡ j
rising_places [] zs h i j x y at_i at_j same = cc
rising_places (z ∷ xs) zs h zero zero x y at_i at_j same = refl
rising_places (z ∷ xs) zs h zero (suc j) x y at_i at_j same =
    let is : z ≡ x = cc in
    let lt = h.0 y.0 (Contains-append_left (map (λ x. x.0) xs) zs y.0 (in_map (λ (x : Served). x.0) xs y (contains_at xs j y at_j))) in
    let eq = ap (λ (x : Served). x.0.number) is in
    absurd (omega arith)
rising_places (z ∷ xs) zs h (suc i) zero x y at_i at_j same =
    let is : z ≡ y = cc in
    let lt = h.0 x.0 (Contains-append_left (map (λ x. x.0) xs) zs x.0 (in_map (λ (x : Served). x.0) xs x (contains_at xs i x at_i))) in
    let eq = ap (λ (x : Served). x.0.number) is in
    absurd (omega arith)
rising_places (z ∷ xs) zs h (suc i) (suc j) x y at_i at_j same = ap suc (rising_places xs zs h.1 i j x y at_i at_j same)

module _ {E V W F N : Type 0} (K : System E V W F N) where
  -- an entry of a record, with what its step did
  pub step_at : (s : FinMap K.order V) (ns : List N) (i : ℕ) (n : N) → slice_get ns i ≡ Some n → (f : MarkedEffect E V W) × (slice_get (paired ns (effects K s ns)) i ≡ Some (n, f))
  step_at s [] i n at = cc
  step_at s (x ∷ ns) zero n at =
      let is : x ≡ n = cc in
      let f = marked_effect K (K.mark x) (outcome K s x) in
      (f, ap (λ n. Some (n, f)) is)
  step_at s (x ∷ ns) (suc i) n at = step_at (after K (outcome K s x) s) ns i n at

-- ---- a trace is sound where it is without its labels

module _ {A N E V W F : Type 0} (bare : A → N) (K : System E V W F N) where
  legal_bare : (s : FinMap K.order V) (xs : List A) → IsLegal K s (map bare xs) → IsLegal (labelled bare K) s xs
  legal_bare s [] h = tt
  legal_bare s (x ∷ xs) h = (h.0, legal_bare (after K (outcome K s (bare x)) s) xs h.1)

  module _ (start : FinMap K.order V) where
    status_bare : (es : List (Happens A)) (g : ℕ) → StatusIs K start (map (bare_event bare) es) g Undecided → StatusIs (labelled bare K) start es g Undecided
    status_bare es g h = (
      (λ there. h.0 (in_map (bare_event bare) es (Commit g) there)),
      (λ there. h.1 (in_map (bare_event bare) es (Fail g) there)),
      let n = h.2 in
          let x = out_of_map bare (record_of (labelled bare K) start es) n.0 (subst (λ ns. Contains ns n.0) (sym (is_bare bare K start es).entries) n.1) in
          (x.0, x.1, ap K.mark x.2 ∙ n.2),
    )

    allowed_bare : (es : List (Happens A)) (e : Happens A) → IsAllowed K start (map (bare_event bare) es) (bare_event bare e) → IsAllowed (labelled bare K) start es e
    allowed_bare es (Taken n) h = λ g old mark drawn. h g old mark (bare drawn.0, in_map (bare_event bare) es (Taken drawn.0) drawn.1, drawn.2)
    allowed_bare es (Commit g) h = status_bare es g h
    allowed_bare es (Fail g) h = status_bare es g h

    sound_bare : (es : List (Happens A)) → IsSound K start (map (bare_event bare) es) → IsSound (labelled bare K) start es
    sound_bare es h = record {
      legal = λ before later is.
          legal_bare start (record_of (labelled bare K) start before)
          (subst (IsLegal K start) (sym (is_bare bare K start before).entries)
          (h.legal (map (bare_event bare) before) (map (bare_event bare) later) (ap (map (bare_event bare)) is ∙ map-append (bare_event bare) before later)));
      allowed = λ before later e is.
          allowed_bare before e
          (h.allowed (map (bare_event bare) before) (map (bare_event bare) later) (bare_event bare e) (ap (map (bare_event bare)) is ∙ map-append (bare_event bare) before (e ∷ later)));
    }

-- ---- events of before

pub back : (es : List (Happens EntryView)) → map (bare_event bare) (map event_before es) ≡ es
back [] = refl
back (Taken n ∷ es) = ap (λ xs. Taken n ∷ xs) (back es)
back (Commit g ∷ es) = ap (λ xs. Commit g ∷ xs) (back es)
back (Fail g ∷ es) = ap (λ xs. Fail g ∷ xs) (back es)

module _ {E V W F : Type 0} (K : System E V W F Caused) (start : FinMap K.order V) where
  all_before : (es : List (Happens EntryView)) (ns : List Caused) → ((n : Caused) → Contains ns n → n.cause ≡ Before)
      → (n : Caused) → Contains (fold (record_after K start) ns (map event_before es)) n → n.cause ≡ Before
  all_before [] ns h = h
  all_before (Taken m ∷ es) ns h = all_before es (ns ++ from_before m ∷ []) (pushed ns (from_before m) h refl)
  all_before (Commit g ∷ es) ns h = all_before es ns h
  all_before (Fail g ∷ es) ns h = all_before es (strike K start ns g) (λ n there. h n (kept_was (struck K start ns g) ns n there))

-- ---- a kernel that is ready

-- a kernel that is ready, and a server, with all that the kernel did before
abbrev pub first_world : KernelView → ServerView → World
first_world k server = record { view = joined (opened_at k server.next) server; trace = map event_before (events_of k); given = [] }

module _ (k : KernelView) (ready : IsReady k) (server : ServerView) where
  abbrev es : List (Happens Caused)
  es = map event_before (events_of k)

  sound : IsSound (kernel (table k.scripts)) k.start es
  sound = sound_bare bare (plain k.scripts) k.start es (subst (IsSound (plain k.scripts) k.start) (sym (back (events_of k))) ready.0.sound.sound)

  drawn_low : (g : ℕ) → IsDrawn (kernel (table k.scripts)) es g → g ≤ last_guess k
  drawn_low g d =
      let there = subst (λ es. Contains es (Taken (bare d.0))) (back (events_of k)) (in_map (bare_event bare) es (Taken d.0) d.1) in
      let below = below_next k ready.0.sound g (bare d.0, there, d.2) in
      omega (arith, below)

  decided : undecided (table k.scripts) k.start es ≡ []
  decided = (is_bare bare (plain k.scripts) k.start es).guesses ∙ ap (undecided_of (plain k.scripts) k.start) (back (events_of k)) ∙ ready.1

  none_open : (y : ℕ) → has y (undecided (table k.scripts) k.start es) ≡ true → ⊥
  none_open y h = true≢false (sym h ∙ ap (has y) decided)

  before : (n : Caused) → Contains (record_of (kernel (table k.scripts)) k.start es) n → n.cause ≡ Before
  before n there = all_before (kernel (table k.scripts)) k.start (events_of k) [] (λ n h. absurd (no_member n h)) n there

  never : (n : Caused) (q : PendingRequest) → Contains (record_of (kernel (table k.scripts)) k.start es) n → n.cause ≡ For q → ⊥
  never n q there cause = (let both : Before ≡ For q = sym (before n there) ∙ cause in cc)

  length_is : length (record_of (kernel (table k.scripts)) k.start es) ≡ length (record_at k)
  length_is = sym (length-map (record_of (kernel (table k.scripts)) k.start es) bare) ∙ ap length ((is_bare bare (plain k.scripts) k.start es).entries ∙ ap (record_of (plain k.scripts) k.start) (back (events_of k)))

  -- it stands for those of guesses that no request has made
  some : PendingRequest
  some = record { number = 0; process = 0; ask = Get []; guess = None; rests = []; settled = 0 }

  at_first : Reached (last_guess k) (length (record_at k)) (first_world k server) [] (joined (opened_at k server.next) server)
  at_first =
      let ns = record_of (kernel (table k.scripts)) k.start es in
      let T = is_table k.scripts in
      record {
        trace = es;
        given = [];
        answered = refl;
        all = record {
          tidy = ready.0.start;
          traced = record { trace = back (events_of k); sound = ready.0.sound };
          kinds = tt;
          holds = record {
            core = record {
              marks = record { made = λ x. some; bad = λ x. false; base = last_guess k; a = last_guess k; base_le = omega arith };
              sound = sound;
              drawn = drawn_low;
              above = λ y h. absurd (none_open y h);
              entries = record {
                own = λ n g there mark above. absurd (let le = drawn_low g (entry_drawn (kernel (table k.scripts)) k.start es sound g (n, there, mark)) in omega
                    (arith, le, above));
                its = λ n q there cause. absurd (never n q there cause);
                tags = λ y h. absurd (none_open y h);
                sets = each_all _ ns (effects (kernel (table k.scripts)) k.start ns) (λ n f there q cause good. absurd (never n q there cause));
              };
              guesses = record {
                own = λ x above le. absurd (omega (arith, above, le));
                stand = λ x above le. absurd (omega (arith, above, le));
                good = λ x above le. absurd (omega (arith, above, le));
                early = λ x above le. absurd (omega (arith, above, le));
                answered = λ y h. absurd (true≢false (sym h));
                failed = λ x above there. absurd (let le = drawn_low x ((one_status (kernel (table k.scripts)) T.total T.exact k.start es x sound).0.1
                    (Failed, there)) in omega (arith, above, le));
              };
              queue = refl;
              remembers = record { undecided = λ y h. absurd (none_open y h); waiting = λ q h. absurd (no_member q h) };
              answers = λ x h. absurd (no_member x h);
            };
            within = λ x h. absurd (no_member x h);
            stands = λ q a x h. absurd (no_member (q, a) h);
            asked = λ q h. absurd (no_member q h);
            apart = tt;
          };
          facts = record {
            low = omega arith;
            numbers = record { below = λ q none. absurd (no_member q none); rising = tt };
            owners = record {
              good = λ n there _. inl (before n there);
              owner = λ n q there cause. absurd (never n q there cause);
              asked = λ n q there cause. absurd (never n q there cause);
              once = once_before ns before;
            };
            decided = record {
              committed = λ q g there. absurd (no_member (q, Yes) there);
              done = λ g there. inl (drawn_low g ((one_status (kernel (table k.scripts)) T.total T.exact k.start es g sound).0.1 (Committed, there)));
            };
            still_served = λ x there. there;
            still_given = λ x there. there;
            still_made = λ q there. there;
            new = λ i n le at _. (let lt = slice_get_within ns i n at in absurd (omega (arith, lt, le, length_is)));
            came = λ n q g there _ _ _. there;
            reach = omega arith;
          };
          answers = λ k there good. no_member k there;
          room = (let place = ready.0.place in omega (arith, place));
        };
      }

  -- the world that some events lead to
  pub reached : server.next ≤ LAST_REQUEST + 1 → (es : List WorldEvent) (xs : Exchanges) (v : WorldView) → Leads (joined (opened_at k server.next) server) es xs v
      → Comes (last_guess k) (length (record_at k)) (first_world k server) xs v
  reached last es xs v h =
      all_events (last_guess k) (length (record_at k)) (first_world k server) [] (joined (opened_at k server.next) server) es xs v (at_first, begun_joined (opened_at k server.next) server refl refl refl last) h

-- ---- the steps of requests

-- a step of the record that was taken for this request, with Good
abbrev pub Stands : World → PendingRequest → Type 0
Stands w q = HasStep (table w.view.desk.kernel.scripts) w.view.desk.kernel.start (entries_of w) q Good

-- its step is due: from its guess on, or from its reply on where it was asked
abbrev pub IsDueStep : World → PendingRequest → Type 0
IsDueStep w q = ((g : ℕ) × (q.guess ≡ Some g)) ⊎ Contains w.given (q, Yes)

-- steps with Good that count: they were asked, or their guess committed
abbrev pub Counts : World → Caused → Type 0
Counts w n = (n.guess ≡ None) ⊎ ((g : ℕ) × (n.guess ≡ Some g) × Contains w.trace (Commit g))

module _ (drawn begun : ℕ) (old w : World) (all : All drawn begun old w) where
  -- the step of an accepted request is there
  pub request_stands : (q : PendingRequest) → Contains (all_served w) (q, Yes) → IsDueStep w q → Stands w q
  request_stands q there due =
      let i = all.holds in
      let K = w.view.desk.kernel in
      let s = i.answers (q, Yes) there in
      elim q.guess as (λ o. q.guess ≡ o → Stands w q) [
        | Some g ↦ λ is.
            let own = s.own g is in
            let g_le : g ≤ last_guess K = (let le = queue_le i.made (undecided (table K.scripts) K.start w.trace) (last_guess K) i.base i.a (all_waiting w) i.queue in let low = own.1 in omega (arith, le, low)) in
            elim (i.guesses.stand g own.0 g_le) [
              | inl entry ↦ let e = i.entries.own entry.0 g entry.1 entry.2 own.0 in (entry.0, entry.1, e.0 ∙ ap For own.2, e.1)
              | inr rests_on ↦ absurd (elim rests_on.2 [
                | inl its ↦ true≢false (sym rests_on.1 ∙ ap i.bad its ∙ own.3)
                | inr rests ↦ true≢false (sym rests_on.1 ∙ s.kept (λ is. cc) rests_on.0 (ap (λ (r : PendingRequest). has rests_on.0 r.rests) (sym own.2) ∙ rests))
              ])
            ]
        | None ↦ λ none. elim due [
          | inl guess ↦ absurd (no_guess q.guess guess.0 none guess.1)
          | inr given ↦ i.stands q Yes Good given refl none
        ]
      ] refl

  -- from this world on
  pub since : All drawn begun w w
  since = record {
    tidy = all.tidy;
    traced = all.traced;
    kinds = all.kinds;
    holds = all.holds;
    facts = record {
      low = all.facts.low;
      numbers = all.facts.numbers;
      owners = all.facts.owners;
      decided = all.facts.decided;
      still_served = λ x there. there;
      still_given = λ x there. there;
      still_made = λ q there. there;
      new = all.facts.new;
      came = λ n q g there _ _ _. there;
      reach = omega arith;
    };
    answers = all.answers;
    room = all.room;
  }

  -- the request of a step that counts is accepted and has its reply
  pub its_reply : (n : Caused) → Contains (entries_of w) n → n.input ≡ Good → Counts w n → (n.cause ≡ Before) ⊎ ((q : PendingRequest) × (n.cause ≡ For q) × Contains w.given (q, Yes))
  its_reply n there good counts =
      let i = all.holds in
      let t = all.facts in
      elim (t.owners.good n there good) [
        | inl before ↦ inl before
        | inr for ↦
            let o = t.owners.owner n for.0 there for.1 in
            inr (elim counts [
              | inl none ↦
                  let a = t.owners.asked n for.0 there for.1 (sym o.1 ∙ none) in
                  (for.0, for.1, subst (λ a. Contains w.given (for.0, a)) (good_yes a.0 (a.2 ∙ ap Some good)) a.1)
              | inr done ↦
                  let g = done.0 in
                  let low = o.2 g (sym o.1 ∙ done.1) in
                  elim (t.decided.done g done.2) [
                    | inl early ↦ absurd (omega (arith, early, low))
                    | inr r ↦
                        let own = (i.answers (r.0, Yes) (i.within (r.0, Yes) r.1)).own g r.2 in
                        (r.0, (i.entries.own n g there done.1 own.0).0 ∙ ap For own.2, r.1)
                  ]
            ])
      ]

  -- a request's step counts that was accepted and has its reply
  pub its_step : (q : PendingRequest) → Contains w.given (q, Yes) → (s : Stands w q) × Counts w s.0
  its_step q there =
      let h = request_stands q (all.holds.within (q, Yes) there) (inr there) in
      let o = all.facts.owners.owner h.0 q h.1 h.2 in (
        h,
        elim q.guess as (λ g. q.guess ≡ g → Counts w h.0) [
          | None ↦ λ none. inl (o.1 ∙ none)
          | Some g ↦ λ some. inr (g, o.1 ∙ some, all.facts.decided.committed q g there some)
        ] refl,
      )

-- the world of these events, and from there on
abbrev pub world_of : (drawn begun : ℕ) (old : World) (xs : Exchanges) (v : WorldView) → Reached drawn begun old xs v → World
world_of drawn begun old xs v r = record { view = v; trace = r.trace; given = r.given }

pub later_on : (drawn begun : ℕ) (old : World) (xs : Exchanges) (v : WorldView) (r : Comes drawn begun old xs v) (es : List WorldEvent) (ys : Exchanges) (last : WorldView) → Leads v es ys last
    → Reached drawn begun (world_of drawn begun old xs v r.0) (xs ++ ys) last
later_on drawn begun old xs v r es ys last h =
    let w = world_of drawn begun old xs v r.0 in
    (all_events drawn begun w xs v es ys last (record { trace = r.0.trace; given = r.0.given; answered = r.0.answered; all = since drawn begun old w r.0.all }, r.1) h).0

-- ======== The step of an asked request is accepted, told of a world's calls.

-- ---- which replies are answered so

-- an asked request that depends on no lost guess, with what its reply gives
record Took (k : KernelView) (q : PendingRequest) (a : Answer) (number : ℕ) : Type 0 where
  asked : q.guess ≡ None
  whole : is_void k q ≡ false
  input : Input
  gives : input_of a ≡ Some input
  its_number : q.number ≡ number

-- what is answered of a question
abbrev IsOfStep : Given → Type 0
IsOfStep (Given.Taken number) = Unit {0}
IsOfStep (Given.Forgotten number) = Unit {0}
IsOfStep told = ⊥

never_decided : (b : Bool) (g : ℕ) (a : Answer) → IsOfStep (cond b (decision_answer g a) (Given.Gone g)) → ⊥
never_decided false g a h = h
never_decided true g Answer.Yes h = h
never_decided true g a h = h

-- then its request has no guess
is_asked : (k : KernelView) (q : PendingRequest) (a : Answer) (said : Given) → IsOfStep said → (g : Option ℕ) → said ≡ said_to k q a g → g ≡ None
is_asked k q a said of_step None is = refl
is_asked k q a said of_step (Some g) is = absurd (never_decided (has g (undecided_at k)) g a (subst IsOfStep is of_step))

took : (k : KernelView) (q : PendingRequest) (a : Answer) (number : ℕ) → q.guess ≡ None → (void : Bool) → is_void k q ≡ void → (o : Option Input) → input_of a ≡ o
    → Given.Taken number ≡ cond void (Given.Forgotten q.number) (step_answer q.number o) → Took k q a number
took k q a number asked false whole (Some input) given is =
    let same : number ≡ q.number = cc in
    record { asked = asked; whole = whole; input = input; gives = given; its_number = sym same }
took k q a number asked void whole o given is = absurd cc

-- a reply that gives an input to an asked request is forgotten where the request is void
forgot : (k : KernelView) (q : PendingRequest) (a : Answer) (number : ℕ) (input : Input) → input_of a ≡ Some input → Given.Forgotten number ≡ said_to k q a None → is_void k q ≡ true
forgot k q a number input given is = true_from_ne_false _ (λ whole.
    let both : Given.Forgotten number ≡ Given.Taken q.number = is ∙ (λ i. cond (whole i) (Given.Forgotten q.number) (step_answer q.number (given i))) in cc)

-- the desk after the step of an asked request
desk_after : (d : DeskView) (q : PendingRequest) (a : Answer) (number : ℕ) (t : Took d.kernel q a number) → step_refused d.kernel (entry q.process t.input None) ≡ None
    → given_to d q a q.guess ≡ record d { kernel = with_event d.kernel (Step q.process t.input) }
desk_after d q a number t accepted =
    (λ i. given_to d q a (t.asked i))
    ∙ (λ i. cond (t.whole i) d (answered d q (input_of a)))
    ∙ (λ i. answered d q (t.gives i))
    ∙ (λ i. record d { kernel = stepped d.kernel q.process t.input (accepted i) })

-- ---- in a world

module _ (drawn begun : ℕ) (old : World) (xs : Exchanges) (v : WorldView) (r : Comes drawn begun old xs v) where
  module _ (p : Reply) (rs : List Reply) (is : v.replies ≡ p ∷ rs) (o : Oldest v.desk p rs v.back) where
    not_lost : (p.answer ≡ Answer.Dropped → ⊥) → is_void v.desk.kernel o.request ≡ true → ⊥
    not_lost = whole drawn begun old xs v o.request o.later p.number rs p.answer (comes drawn begun old xs v r.0 p rs is o)

    forgotten : (n : ℕ) (a : Answer) → p.answer ≡ a → Given.Forgotten n ≡ said_to v.desk.kernel o.request p.answer o.request.guess → a ≡ Answer.Dropped
    forgotten n Answer.Dropped its h = refl
    forgotten n a its h =
        absurd (not_lost (λ is. (let both : a ≡ Answer.Dropped = sym its ∙ is in cc))
        (forgot v.desk.kernel o.request p.answer n _ (ap input_of its)
        (h ∙ ap (said_to v.desk.kernel o.request p.answer) (is_asked v.desk.kernel o.request p.answer (Given.Forgotten n) tt o.request.guess h))))

  oldest_here : (p : Reply) (rs : List Reply) → v.replies ≡ p ∷ rs → Oldest v.desk p rs v.back
  oldest_here p rs is = oldest v.desk v.server p rs v.back (subst (λ (ys : List Reply). IsJoined v.desk v.server ys v.back) is r.1)

  pub takes : (n : ℕ) (new : WorldView) (rs : List Reply) → v.replies ≡ rs → Replies (Ok (WorldAnswer.Given (Given.Taken n))) v new rs → TakesStep v n new
  takes n new [] is h = absurd (let bad : Ok (WorldAnswer.Given (Given.Taken n)) ≡ Err Cause.Idle = h.0 in cc)
  takes n new (p ∷ rs) is h =
      let o = oldest_here p rs is in
      let said = h.0.1 ∙ ap (given_answer v.desk p) o.taken in
      let asks = is_asked v.desk.kernel o.request p.answer (Given.Taken n) tt o.request.guess said in
      let t = took v.desk.kernel o.request p.answer n asks (is_void v.desk.kernel o.request) refl (input_of p.answer) refl (said ∙ ap (said_to v.desk.kernel o.request p.answer) asks) in
      let ok = accepted drawn begun old xs v o.request o.later p.number rs p.answer (comes drawn begun old xs v r.0 p rs is o) t.asked t.input t.gives in
      let desk : new.desk ≡ record v.desk { taken = o.later; kernel = with_event v.desk.kernel (Step o.request.process t.input) } =
      h.0.2 ∙ ap (given v.desk p) o.taken ∙ desk_after (record v.desk { taken = o.later }) o.request p.answer n t ok in
      record {
        request = o.request;
        reply = p;
        input = t.input;
        oldest = o.taken ∙ ap (λ (d : DeskView). o.request ∷ d.taken) (sym desk);
        its_reply = is ∙ ap (λ (x : WorldView). p ∷ x.replies) (sym h.1);
        number_is = t.its_number;
        asked = t.asked;
        given = t.gives;
        accepted = ok;
        kernel = ap (λ (d : DeskView). d.kernel) desk;
      }

  pub forgets : (n : ℕ) (new : WorldView) (rs : List Reply) → v.replies ≡ rs → Replies (Ok (WorldAnswer.Given (Given.Forgotten n))) v new rs → (p : Reply) × (v.replies ≡ p ∷ new.replies) × (p.answer ≡ Answer.Dropped)
  forgets n new [] is h = absurd (let bad : Ok (WorldAnswer.Given (Given.Forgotten n)) ≡ Err Cause.Idle = h.0 in cc)
  forgets n new (p ∷ rs) is h =
      let o = oldest_here p rs is in
      (p, is ∙ ap (λ (x : WorldView). p ∷ x.replies) (sym h.1), forgotten p rs is o n p.answer refl (h.0.1 ∙ ap (given_answer v.desk p) o.taken))

-- ======== The server's files after any list of a world's events.

-- ---- one list of writes after another

fit_more : (files : FileMap) (ws vs : List Write) → AllFit files ws → AllFit (all_written files ws) vs → AllFit files (ws ++ vs)
fit_more files [] vs h g = g
fit_more files (w ∷ ws) vs h g = (h.0, fit_more (written files w.name w.expected w.bytes) ws vs h.1 g)

stores_more : (xs ys : Exchanges) → stores_of (xs ++ ys) ≡ stores_of xs ++ stores_of ys
stores_more [] ys = refl
stores_more (x ∷ xs) ys = ap (λ ws. store_of x.0 x.0.ask x.1.answer ++ ws) (stores_more xs ys) ∙ sym (append_assoc (store_of x.0 x.0.ask x.1.answer) (stores_of xs) (stores_of ys))

then : (w v last : WorldView) (ws vs : List Write) (xs ys : Exchanges) → AreWritten w ws xs v → AreWritten v vs ys last → AreWritten w (ws ++ vs) (xs ++ ys) last
then w v last ws vs xs ys a b = record {
  files =
      b.files
      ∙ ap (λ files. all_written files vs) a.files
      ∙ sym (fold-append (λ (files : FileMap) (x : Write). written files x.name x.expected x.bytes) w.server.files ws vs);
  fit = fit_more w.server.files ws vs a.fit (subst (λ files. AllFit files vs) a.files b.fit);
  stores = filter-append (λ (x : Write). is_some x.store) ws vs ∙ (λ i. a.stores i ++ b.stores i) ∙ sym (stores_more xs ys);
}

nothing : (w new : WorldView) → new.server ≡ w.server → AreWritten w [] [] new
nothing w new same = record { files = ap (λ (s : ServerView). s.files) same; fit = tt; stores = refl }

-- ---- same_server and edits

same_server : (answer : Result WorldAnswer Cause) (w new : WorldView) (rs : List Reply) → Replies answer w new rs → new.server ≡ w.server
same_server answer w new [] h = ap (λ (x : WorldView). x.server) h.1
same_server (Ok (WorldAnswer.Given given)) w new (r ∷ rs) h = ap (λ (x : WorldView). x.server) h.1
same_server (Ok x) w new (r ∷ rs) h = absurd h
same_server (Err why) w new (r ∷ rs) h = ap (λ (x : WorldView). x.server) h.2

edits : (answer : Result WorldAnswer Cause) (w new : WorldView) (name : List ℕ) (expected : ℕ) (bytes : List ℕ) → EditsFile answer w name expected bytes new
    → AreWritten w (written_by answer w (WorldEvent.Edit name expected bytes)) [] new
edits (Ok (WorldAnswer.Edited version)) w new name expected bytes h = record { files = ap (λ (s : ServerView). s.files) h.0.2; fit = (h.0.0, tt); stores = refl }
edits (Err (Cause.Edit why)) w new name expected bytes h = nothing w new (ap (λ (x : WorldView). x.server) h.1)
edits x w new name expected bytes h = absurd h

-- ---- the server's answer

-- what the answer writes
by_answer : (w : WorldView) (new : WorldView) (q : Sent) (r : Reply) (ask : Ask) (a : Answer) → q.ask ≡ ask → r.answer ≡ a → new.server.files ≡ files_after w.server.files ask a → Fitting w.server.files ask a
    → AreWritten w (store_of q ask a ++ []) ((q, r) ∷ []) new
by_answer w new q r (Ask.Store name version bytes) Answer.Yes ask answer is fits = record { files = is; fit = (fits, tt); stores = (λ i. store_of q (sym ask i) (sym answer i) ++ []) }
by_answer w new q r kind a ask answer is fits = record { files = is; fit = tt; stores = (λ i. store_of q (sym ask i) (sym answer i) ++ []) }

serves : (answer : Result WorldAnswer Cause) (w new : WorldView) (b : Option Sent) → Serves answer w new b → AreWritten w (stores_of (exchange b answer)) (exchange b answer) new
serves answer w new None h = nothing w new (ap (λ (x : WorldView). x.server) h.1)
serves (Ok x) w new (Some q) h =
    subst (λ (y : WorldAnswer). AreWritten w (stores_of (exchange (Some q) (Ok y))) (exchange (Some q) (Ok y)) new) (sym h.0)
    (by_answer w new q (reply_to w.server q) q.ask (answer_to w.server q) refl refl (ap (λ (y : WorldView). y.server.files) h.1) (answer_suits w.server q).1)
serves (Err why) w new (Some q) h = nothing w new (ap (λ (x : WorldView). x.server) h.1)

-- ---- all events

one : (answer : Result WorldAnswer Cause) (w : WorldView) (e : WorldEvent) (new : WorldView) → EventPost answer w e new → AreWritten w (written_by answer w e) (exchanged answer w e) new
one answer w (WorldEvent.Turn p) new h = nothing w new (ap (λ (x : WorldView). x.server) (turn_rest answer w p new h))
one answer w WorldEvent.Serve new h =
    let t = taken_by w w.back in
    let a : AreWritten t (stores_of (exchange t.back answer)) (exchange t.back answer) new = serves answer t new t.back h in
    let same : t.server ≡ w.server = (taken_same w w.back).0 in
    record {
      files = a.files ∙ ap (λ (s : ServerView). all_written s.files (stores_of (exchange t.back answer))) same;
      fit = subst (λ (s : ServerView). AllFit s.files (stores_of (exchange t.back answer))) same a.fit;
      stores = a.stores;
    }
one answer w WorldEvent.Reply new h = nothing w new (same_server answer w new w.replies h)
one answer w (WorldEvent.Edit name expected bytes) new h = edits answer w new name expected bytes h

pub all_are_written : (w : WorldView) (es : List WorldEvent) (served : Exchanges) (last : WorldView) (h : Leads w es served last) → AreWritten w (writes_of w es served last h) served last
all_are_written w [] served last h =
    subst (λ (xs : Exchanges). AreWritten w [] xs last) (sym h.0) (nothing w last (ap (λ (x : WorldView). x.server) h.1))
all_are_written w (e ∷ es) served last h =
    subst (λ (xs : Exchanges). AreWritten w (writes_of w (e ∷ es) served last h) xs last) (sym h.5)
    (then w h.1 last (written_by h.0 w e) (writes_of h.1 es h.2 last h.4) (exchanged h.0 w e) h.2 (one h.0 w e h.1 h.3) (all_are_written h.1 es h.2 last h.4))

-- ======== The steps of requests in a record: those of accepted stores stand, each at a place of its own; and the steps that count and the
-- accepted requests whose reply was given are one for one. No request has two replies. Told of a world's calls.

-- ---- elements of lists

-- a request that has its reply on the way is pending
served_pending : (qs : List PendingRequest) (rs : List Reply) (x : Served) → Contains (law_served qs rs) x → (p : PendingRequest) × Contains qs p × (x.0 ≡ p)
served_pending [] rs x h = absurd (no_member x h)
served_pending (q ∷ qs) [] x h = absurd (no_member x h)
served_pending (q ∷ qs) (r ∷ rs) x h =
    elim (cons_cases (q, r.answer) (law_served qs rs) x h) [
      | inl is ↦ (q, cons_first q qs, ap (λ (y : Served). y.0) (sym is))
      | inr later ↦ let rest = served_pending qs rs x later in (rest.0, cons_later q qs rest.0 rest.1, rest.2)
    ]

paired_map : {A B C : Type 0} (g : A → B) (xs : List A) (ys : List C) → map (λ p. (g p.0, p.1)) (paired xs ys) ≡ paired (map g xs) ys
paired_map g [] ys = refl
paired_map g (x ∷ xs) [] = refl
paired_map g (x ∷ xs) (y ∷ ys) = ap (λ zs. (g x, y) ∷ zs) (paired_map g xs ys)

-- ---- what the laws say of a request

-- a request of the laws that was served with this answer, which was sent as this one
record Found (w : World) (q : Sent) (a : Answer) : Type 0 where
  pub request : PendingRequest
  pub there : Contains (all_served w) (request, a)
  pub same : sent request ≡ q

module _ (xs : Exchanges) (w : World) (seen : map exchange_of (all_served w) ≡ xs) where
  among : (q : Sent) (r : Reply) → Contains xs (q, r) → (x : Served) × Contains (all_served w) x × (exchange_of x ≡ (q, r))
  among q r there = out_of_map exchange_of (all_served w) (q, r) (subst (λ ys. Contains ys (q, r)) (sym seen) there)

  found : (q : Sent) (r : Reply) (a : Answer) → Contains xs (q, r) → r.answer ≡ a → Found w q a
  found q r a there answer =
      let x = among q r there in
      record {
        request = x.0.0;
        there = subst (λ a. Contains (all_served w) (x.0.0, a)) (ap (λ (e : Sent × Reply). e.1.answer) x.2 ∙ answer) x.1;
        same = ap (λ (e : Sent × Reply). e.0) x.2;
      }

  -- the reply has its number
  numbers_agree : (q : Sent) (r : Reply) → Contains xs (q, r) → r.number ≡ q.number
  numbers_agree q r there =
      let x = among q r there in
      sym (ap (λ (e : Sent × Reply). e.1.number) x.2) ∙ ap (λ (e : Sent × Reply). e.0.number) x.2

number_of : (q : PendingRequest) (r : Sent) → sent q ≡ r → q.number ≡ r.number
number_of q r same = ap (λ (s : Sent). s.number) same

guess_of : (q : PendingRequest) (r : Sent) → sent q ≡ r → q.guess ≡ r.guess
guess_of q r same = ap (λ (s : Sent). s.guess) same

-- the replies on their way are those of the requests that have one
on_its_way : (rs : List Reply) (b : Option Sent) (qs : List PendingRequest) → AreReplies rs b qs
    → map (λ x. x.1) (map exchange_of (law_served qs rs)) ≡ rs
on_its_way [] b [] h = refl
on_its_way [] b (q ∷ qs) h = refl
on_its_way (r ∷ rs) b (q ∷ qs) h = λ i. record { number = h.0 i; answer = r.answer } ∷ on_its_way rs b qs h.2 i
on_its_way (r ∷ rs) b [] h = absurd h

-- one that is not pending has its reply
its_given : (w : World) (q : Sent) (a : Answer) (f : Found w q a) → IsGiven w.view q → Contains w.given (f.request, a)
its_given w q a f given =
    let v = w.view in
    elim (Contains-append_cases w.given (law_served v.desk.taken v.replies) (f.request, a) f.there) [
      | inl here ↦ here
      | inr waits ↦
          let p = served_pending v.desk.taken v.replies (f.request, a) waits in
          absurd (given p.0 (Contains-append_left v.desk.taken v.desk.waiting p.0 p.1)
          (sym (ap (λ (x : PendingRequest). x.number) p.2) ∙ number_of f.request q f.same))
    ]

due : (w : World) (q : Sent) (f : Found w q Yes) → IsDue w.view q → IsDueStep w f.request
due w q f (inl guessed) = inl (guessed.0, guess_of f.request q f.same ∙ guessed.1)
due w q f (inr given) = inr (its_given w q Yes f given)

-- ---- places of lists

paired_first : {A B : Type 0} (xs : List A) (ys : List B) (i : ℕ) (p : A × B) → slice_get (paired xs ys) i ≡ Some p → slice_get xs i ≡ Some p.0
paired_first [] ys i p at = cc
paired_first (x ∷ xs) [] i p at = cc
paired_first (x ∷ xs) (y ∷ ys) zero p at = let is : (x, y) ≡ p = cc in ap (λ q. Some q.0) is
paired_first (x ∷ xs) (y ∷ ys) (suc i) p at = paired_first xs ys i p at

under_map : {A B : Type 0} (g : A → B) (o : Option A) (y : B) → option_map g o ≡ Some y → (x : A) × (o ≡ Some x) × (g x ≡ y)
under_map g None y h = absurd cc
under_map g (Some x) y h = (x, refl, (let same : g x ≡ y = cc in same))

-- the places of a mapped list
from_map : {A B : Type 0} (g : A → B) (xs : List A) (ys : List B) → map g xs ≡ ys → (i : ℕ) (y : B) → slice_get ys i ≡ Some y
    → (x : A) × (slice_get xs i ≡ Some x) × (g x ≡ y)
from_map g xs ys is i y at = under_map g (slice_get xs i) y (sym (slice_get-map g xs i) ∙ ap (λ zs. slice_get zs i) is ∙ at)

to_map : {A B : Type 0} (g : A → B) (xs : List A) (ys : List B) → map g xs ≡ ys → (i : ℕ) (x : A) → slice_get xs i ≡ Some x → slice_get ys i ≡ Some (g x)
to_map g xs ys is i x at = ap (λ zs. slice_get zs i) (sym is) ∙ slice_get-map g xs i ∙ ap (option_map g) at

-- ---- the first entry of a request of this number

-- the number of the request that an entry is for, where it is for one
abbrev number_for : Origin → Option ℕ
number_for (For q) = Some q.number
number_for cause = None

is_number : (n : ℕ) (c : Origin) → number_for c ≡ Some n → (q : PendingRequest) × (c ≡ For q) × (q.number ≡ n)
is_number n (For q) h = (q, refl, (let same : q.number ≡ n = cc in same))
is_number n c h = absurd cc

abbrev is_for : ℕ → Origin → Bool
is_for n c = has n (marks (number_for c))

abbrev place_in : List Caused → ℕ → ℕ
place_in [] n = zero
place_in (x ∷ xs) n = cond (is_for n x.cause) zero (suc (place_in xs n))

-- where a request's one entry is
first_is : (ns : List Caused) → Once ns → (i : ℕ) (e : Caused) (q : PendingRequest) (n : ℕ) → slice_get ns i ≡ Some e → e.cause ≡ For q → q.number ≡ n
    → place_in ns n ≡ i
first_is [] once i e q n at cause number = cc
first_is (x ∷ ns) once zero e q n at cause number =
    let same : x ≡ e = cc in
    ap (λ b. cond b zero (suc (place_in ns n))) (has_mark (number_for x.cause) n (ap (λ (m : Caused). number_for m.cause) same ∙ ap number_for cause ∙ ap Some number))
first_is (x ∷ ns) once (suc i) e q n at cause number =
    let other : is_for n x.cause ≡ false =
    false_from_ne_true _ (λ is. (let r = is_number n x.cause (mark_has (number_for x.cause) n is) in once.0 e (contains_at ns i e at) r.0 q r.1 cause (r.2 ∙ sym number))) in
    ap (λ b. cond b zero (suc (place_in ns n))) other ∙ ap suc (first_is ns once.1 i e q n at cause number)

-- ---- requests have numbers of their own

requests_seen : (qs : List PendingRequest) (rs : List Reply) (later : List PendingRequest) → map (λ x. x.0) (law_served qs rs) ++ (unanswered qs rs ++ later) ≡ qs ++ later
requests_seen [] rs later = refl
requests_seen (q ∷ qs) [] later = refl
requests_seen (q ∷ qs) (r ∷ rs) later = ap (λ xs. q ∷ xs) (requests_seen qs rs later)

-- the requests whose reply was given, and those that are pending
all_requests : (w : World) → map (λ x. x.0) (all_served w) ++ all_waiting w ≡ map (λ x. x.0) w.given ++ pending w.view.desk
all_requests w =
    let d = w.view.desk in
    map_front (λ (x : Served). x.0) w.given (law_served d.taken w.view.replies) (all_waiting w) ∙ ap (λ qs. map (λ (x : Served). x.0) w.given ++ qs) (requests_seen d.taken w.view.replies d.waiting)

module _ (xs : Exchanges) (w : World) (seen : map exchange_of (all_served w) ≡ xs) where
  one_number : Rising (map (λ x. x.0) (all_served w) ++ all_waiting w) → (i j : ℕ) (x y : Sent × Reply) → slice_get xs i ≡ Some x → slice_get xs j ≡ Some y → x.0.number ≡ y.0.number → i ≡ j
  one_number rising i j x y at_i at_j same =
      let a = from_map exchange_of (all_served w) xs seen i x at_i in
      let b = from_map exchange_of (all_served w) xs seen j y at_j in
      rising_places (all_served w) (all_waiting w) rising i j a.0 b.0 a.1 b.1
      (ap (λ (e : Sent × Reply). e.0.number) a.2 ∙ same ∙ ap (λ (e : Sent × Reply). e.0.number) (sym b.2))

-- ---- the same words in both

-- a commit is one without causes too
commit_back : (g : ℕ) (e : Happens Caused) → bare_event bare e ≡ Commit g → e ≡ Commit g
commit_back g (Taken n) is = cc
commit_back g (Commit h) is = (let same : h ≡ g = cc in ap Commit same)
commit_back g (Fail h) is = cc

module _ (w : World) (t : Traced w.trace w.view.desk.kernel) where
  counts_here : (n : Caused) → Counts w n → CountsAt w.view.desk.kernel (bare n)
  counts_here n (inl none) = inl none
  counts_here n (inr g) = inr (g.0, g.1, subst (λ es. Contains es (Commit g.0)) t.trace (in_map (bare_event bare) w.trace (Commit g.0) g.2))

  counts_there : (n : Caused) → CountsAt w.view.desk.kernel (bare n) → Counts w n
  counts_there n (inl none) = inl none
  counts_there n (inr g) =
      let e = out_of_map (bare_event bare) w.trace (Commit g.0) (subst (λ es. Contains es (Commit g.0)) (sym t.trace) g.2) in
      inr (g.0, g.1, subst (Contains w.trace) (commit_back g.0 e.0 e.2) e.1)

abbrev number_at : Option Caused → Option ℕ
number_at None = None
number_at (Some x) = number_for x.cause

-- that of the entry at a place
abbrev number_in : List Caused → ℕ → Option ℕ
number_in ns place = number_at (slice_get ns place)

numbered : (n : ℕ) (o : Option Caused) → number_at o ≡ Some n → (x : Caused) × (o ≡ Some x) × (q : PendingRequest) × (x.cause ≡ For q) × (q.number ≡ n)
numbered n None h = absurd cc
numbered n (Some x) h = (let q = is_number n x.cause h in (x, refl, q.0, q.1, q.2))

number_is : (ns : List Caused) (place : ℕ) (x : Caused) (q : PendingRequest) (n : ℕ) → slice_get ns place ≡ Some x → x.cause ≡ For q → q.number ≡ n → number_in ns place ≡ Some n
number_is ns place x q n at cause number = ap number_at at ∙ ap number_for cause ∙ ap Some number

-- no two entries are one request's
one_entry : (ns : List Caused) → Once ns → (place other n : ℕ) → number_in ns place ≡ Some n → number_in ns other ≡ Some n → place ≡ other
one_entry ns once place other n here there =
    let a = numbered n (slice_get ns place) here in
    let b = numbered n (slice_get ns other) there in
    sym (first_is ns once place a.0 a.2 n a.1 a.3 a.4) ∙ first_is ns once other b.0 b.2 n b.1 b.3 b.4

-- ---- the steps of a world's record

-- a step as the kernel has it
abbrev both : Caused × MarkedEffect Entity EntityState Saying → EntryView × MarkedEffect Entity EntityState Saying
both p = (bare p.0, p.1)

module _ (drawn begun : ℕ) (old w : World) (all : All drawn begun old w) where
  abbrev K : KernelView
  K = w.view.desk.kernel

  abbrev entries : List Caused
  entries = entries_of w

  abbrev does : List (MarkedEffect Entity EntityState Saying)
  does = effects (kernel (table w.view.desk.kernel.scripts)) w.view.desk.kernel.start entries

  abbrev steps_now : List (Caused × MarkedEffect Entity EntityState Saying)
  steps_now = paired entries does

  record_seen : map both steps_now ≡ steps_at K
  record_seen = paired_map bare entries does ∙ (λ i. paired (entries_seen w.trace K all.traced i) (steps_seen w.trace K all.traced i))

  at_kernel : (place : ℕ) (p : Caused × MarkedEffect Entity EntityState Saying) → slice_get steps_now place ≡ Some p
      → slice_get (steps_at K) place ≡ Some (both p)
  at_kernel place p at = to_map both steps_now (steps_at K) record_seen place p at

  at_law : (place : ℕ) (n : EntryView) (f : MarkedEffect Entity EntityState Saying) → slice_get (steps_at K) place ≡ Some (n, f)
      → (p : Caused × MarkedEffect Entity EntityState Saying) × (slice_get steps_now place ≡ Some p) × (both p ≡ (n, f))
  at_law place n f at = from_map both steps_now (steps_at K) record_seen place (n, f) at

  at_entry : (place : ℕ) (p : Caused × MarkedEffect Entity EntityState Saying) → slice_get steps_now place ≡ Some p → slice_get entries place ≡ Some p.0
  at_entry place p at = paired_first entries does place p at

  -- an entry of the kernel's record
  at_record : (place : ℕ) (n : EntryView) → slice_get (record_at K) place ≡ Some n → (m : Caused) × (slice_get entries place ≡ Some m) × (bare m ≡ n)
  at_record place n at = from_map bare entries (record_at K) (entries_seen w.trace K all.traced) place n at

  in_record : (place : ℕ) (m : Caused) → slice_get entries place ≡ Some m → slice_get (record_at K) place ≡ Some (bare m)
  in_record place m at = to_map bare entries (record_at K) (entries_seen w.trace K all.traced) place m at

  -- a request's step is at the place of its number
  at_place : (q : PendingRequest) (s : Stands w q) (n : ℕ) → q.number ≡ n → slice_get entries (place_in entries n) ≡ Some s.0
  at_place q s n number =
      let here = place_at entries s.0 s.1 in
      ap (slice_get entries) (first_is entries all.facts.owners.once here.0 s.0 q n here.1 s.2 number) ∙ here.1

  -- with what it did
  does_there : (q : PendingRequest) (s : Stands w q) (n : ℕ) → q.number ≡ n → (f : MarkedEffect Entity EntityState Saying) × (slice_get steps_now (place_in entries n) ≡ Some (s.0, f))
  does_there q s n number = step_at (kernel (table K.scripts)) K.start entries (place_in entries n) s.0 (at_place q s n number)

  -- and no two requests have one
  one_request : (q r : PendingRequest) (s : Stands w q) (t : Stands w r) (n m : ℕ) → q.number ≡ n → r.number ≡ m → place_in entries n ≡ place_in entries m
      → n ≡ m
  one_request q r s t n m q_is r_is same =
      let both : Some s.0 ≡ Some t.0 = sym (at_place q s n q_is) ∙ ap (slice_get entries) same ∙ at_place r t m r_is in
      let steps : s.0 ≡ t.0 = cc in
      sym q_is ∙ ap (λ (q : PendingRequest). q.number) (same_request q r (sym s.2 ∙ ap (λ (n : Caused). n.cause) steps ∙ t.2)) ∙ r_is

  -- a step with Good is that of its request's guess, or of none, and does what was asked
  does_at : (place : ℕ) (m : Caused) (f : MarkedEffect Entity EntityState Saying) (q : PendingRequest) (r : Sent)
      → slice_get steps_now place ≡ Some (m, f) → m.cause ≡ For q → m.input ≡ Good → sent q ≡ r → IsStepAt K place r.guess r.ask
  does_at place m f q r at cause good same = record {
    entry = bare m;
    effect = f;
    there = at_kernel place (m, f) at;
    guess = (all.facts.owners.owner m q (contains_at entries place m (at_entry place (m, f) at)) cause).1 ∙ guess_of q r same;
    input = good;
    does = subst (λ (s : Sent). DoesAsked s.ask f.written) same
        (each_at _ entries does all.holds.entries.sets m f (contains_at steps_now place (m, f) at) q cause good);
  }

  stands_at : (q : PendingRequest) (s : Stands w q) (r : Sent) → sent q ≡ r → IsStepAt K (place_in entries r.number) r.guess r.ask
  stands_at q s r same =
      let f = does_there q s r.number (number_of q r same) in
      does_at (place_in entries r.number) s.0 f.0 q r f.1 s.2 s.3 same

-- ---- all of it

-- a world, and a later one
module _ (drawn begun : ℕ) (old : World) (xs : Exchanges) (v : WorldView) (a : Reached drawn begun old xs v) (ys : Exchanges) (last : WorldView)
    (b : Reached drawn begun (world_of drawn begun old xs v a) (xs ++ ys) last) where
  abbrev w : World
  w = world_of drawn begun old xs v a

  abbrev z : World
  z = world_of drawn begun w (xs ++ ys) last b

  -- where the step of a request of this number is
  abbrev place_of : ℕ → ℕ
  place_of n = place_in (entries_of z) n

  -- a store's step, once it is due
  its_store : (q : Sent) (f : Found w q Yes) → IsDue v q → Stands z f.request
  its_store q f is_due =
      request_stands drawn begun w z b.all f.request (b.all.facts.still_served (f.request, Yes) f.there)
      (elim (due w q f is_due) as (λ _. IsDueStep z f.request) [
        | inl guess ↦ inl guess
        | inr given ↦ inr (b.all.facts.still_given (f.request, Yes) given)
      ])

  stand : StoresStand xs v last
  stand q r name version bytes there accepted asks is_due =
      let f = found xs w a.answered q r Yes there accepted in (
        place_of q.number,
        subst (IsStepAt last.desk.kernel (place_of q.number) q.guess) asks
            (stands_at drawn begun w z b.all f.request (its_store q f is_due) q f.same),
      )

  stood : StoresStood (xs ++ ys) v
  stood q r name version bytes g there accepted asks its low =
      let f = found (xs ++ ys) z b.answered q r Yes there accepted in
      let guess : f.request.guess ≡ Some g = guess_of f.request q f.same ∙ its in
      let h = request_stands drawn begun w z b.all f.request f.there (inl (g, guess)) in
      let made = subst (λ n. n < v.desk.next) (sym (number_of f.request q f.same)) low in
      let place = place_in (entries_of w) q.number in (
        place,
        subst (λ (c : Option ℕ × Ask). IsStepAt v.desk.kernel place c.0 c.1) (λ i. (its i, asks i))
            (stands_at drawn begun old w a.all f.request (h.0, b.all.facts.came h.0 f.request g h.1 h.2 guess made, h.2, h.3) q f.same),
      )

  -- ---- accepted stores

  abbrev store_found : (s : DueStore xs v) → Found w s.request Yes
  store_found s = found xs w a.answered s.request s.reply Yes (contains_at xs s.at (s.request, s.reply) s.there) s.accepted

  store_step : (s : DueStore xs v) → Stands z (store_found s).request
  store_step s = its_store s.request (store_found s) s.due

  one_store : (s t : DueStore xs v) → place_of s.request.number ≡ place_of t.request.number → s.at ≡ t.at
  one_store s t same =
      one_number xs w a.answered a.all.facts.numbers.rising s.at t.at (s.request, s.reply) (t.request, t.reply) s.there t.there
      (one_request drawn begun w z b.all (store_found s).request (store_found t).request (store_step s) (store_step t) s.request.number t.request.number
      (number_of (store_found s).request s.request (store_found s).same)
      (number_of (store_found t).request t.request (store_found t).same) same)

  standing : StandApart xs v last
  standing = record {
    place_of = place_of;
    stands = λ s. let f = store_found s in subst (IsStepAt last.desk.kernel (place_of s.request.number) s.request.guess) s.asks
        (stands_at drawn begun w z b.all f.request (store_step s) s.request f.same);
    apart = one_store;
  }

  -- ---- a request whose reply was given

  not_pending : (q : PendingRequest) → Contains b.given (q, Yes) → (p : PendingRequest) → Contains (pending last.desk) p → p.number ≡ q.number → ⊥
  not_pending q given p there same =
      let order : Rising (map (λ x. x.0) b.given ++ pending last.desk) = subst Rising (all_requests z) b.all.facts.numbers.rising in
      let less = rising_apart (map (λ x. x.0) b.given) (pending last.desk) order q p (in_map (λ (x : Served). x.0) b.given (q, Yes) given) there in
      omega (arith, less, same)

  -- the number of the request at a place
  abbrev request_at : ℕ → Option ℕ
  request_at place = number_in (entries_of z) place

  replies : (r : Replied (xs ++ ys) last) → (place : ℕ) × (request_at place ≡ Some r.request.number) × IsStepOf last.desk.kernel place r.request
  unfolding stands_at does_at
  replies r =
      let f = found (xs ++ ys) z b.answered r.request r.reply Yes (contains_at (xs ++ ys) r.at (r.request, r.reply) r.there) r.accepted in
      let s = its_step drawn begun w z b.all f.request (its_given z r.request Yes f r.given) in
      let n = r.request.number in
      let number = number_of f.request r.request f.same in (
        place_of n,
        number_is (entries_of z) (place_of n) s.0.0 f.request n (at_place drawn begun w z b.all f.request s.0 n number) s.0.2 number,
        (stands_at drawn begun w z b.all f.request s.0 r.request f.same, counts_here z b.all.traced s.0.0 s.1),
      )

  -- ---- a step that counts

  -- a request of the laws whose reply was given, as the calls have it
  is_replied : (q : PendingRequest) → Contains b.given (q, Yes) → (r : Replied (xs ++ ys) last) × (sent q ≡ r.request)
  is_replied q given =
      let i = place_at (all_served z) (q, Yes) (Contains-append_left b.given (law_served last.desk.taken last.replies) (q, Yes) given) in (
        record {
          at = i.0;
          request = sent q;
          reply = record { number = q.number; answer = Yes };
          there = to_map exchange_of (all_served z) (xs ++ ys) b.answered i.0 (q, Yes) i.1;
          accepted = refl;
          given = not_pending q given;
        },
        refl,
      )

  steps : (place : ℕ) (n : EntryView) (f : MarkedEffect Entity EntityState Saying) → begun ≤ place → slice_get (steps_at last.desk.kernel) place ≡ Some (n, f)
      → n.input ≡ Good → CountsAt last.desk.kernel n → (r : Replied (xs ++ ys) last) ×
      (request_at place ≡ Some r.request.number) × IsStepOf last.desk.kernel place r.request
  unfolding does_at
  steps place n f le at good counts =
      let u = at_law drawn begun w z b.all place n f at in
      let m = u.0.0 in
      let is : bare m ≡ n = ap (λ p. p.0) u.2 in
      let good_there : m.input ≡ Good = ap (λ (n : EntryView). n.input) is ∙ good in
      let counts_so = counts_there z b.all.traced m (subst (CountsAt last.desk.kernel) (sym is) counts) in
      let here = at_entry drawn begun w z b.all place u.0 u.1 in
      let q : (q : PendingRequest) × (m.cause ≡ For q) × Contains b.given (q, Yes) =
      elim (its_reply drawn begun w z b.all m (contains_at (entries_of z) place m here) good_there counts_so) [
        | inl before ↦ absurd (b.all.facts.new place m le here before)
        | inr q ↦ q
      ] in
      let r = is_replied q.0 q.2 in (
        r.0,
        number_is (entries_of z) place m q.0 r.0.request.number here q.1 (number_of q.0 r.0.request r.1),
        (does_at drawn begun w z b.all place m u.0.1 q.0 r.0.request u.1 q.1 good_there r.1, counts_here z b.all.traced m counts_so),
      )

  -- ---- the step of a request that was pending

  still : (p : PendingRequest) → Contains (pending v.desk) p → Contains (map (λ x. x.0) (all_served z) ++ all_waiting z) p
  still p there = b.all.facts.still_made p (subst (λ ps. Contains ps p) (sym (all_requests w)) (Contains-append_right (map (λ x. x.0) a.given) (pending v.desk) p there))

  its : (p : PendingRequest) (place : ℕ) (n : EntryView) → Contains (pending v.desk) p → request_at place ≡ Some p.number → slice_get (record_at last.desk.kernel) place ≡ Some n
      → (n.pid ≡ p.process) × (n.guess ≡ p.guess)
  its p place n there number at =
      let u = at_record drawn begun w z b.all place n at in
      let m = u.0 in
      let q = is_number p.number m.cause (ap number_at (sym u.1) ∙ number) in
      let here = contains_at (entries_of z) place m u.1 in
      let owner = b.all.facts.owners.owner m q.0 here q.1 in
      let one : q.0 ≡ p = rising_same (map (λ x. x.0) (all_served z) ++ all_waiting z) b.all.facts.numbers.rising q.0 p owner.0 (still p there) q.2 in (
        sym (ap (λ (n : EntryView). n.pid) u.2) ∙ b.all.holds.entries.its m q.0 here q.1 ∙ ap (λ (q : PendingRequest). q.process) one,
        sym (ap (λ (n : EntryView). n.guess) u.2) ∙ owner.1 ∙ ap (λ (q : PendingRequest). q.guess) one,
      )

  -- ---- each step with Good, and each asked request

  good : (place : ℕ) (n : EntryView) → begun ≤ place → slice_get (record_at last.desk.kernel) place ≡ Some n → n.input ≡ Good → IsSome (request_at place)
  good place n le at is =
      let u = at_record drawn begun w z b.all place n at in
      elim (b.all.facts.owners.good u.0 (contains_at (entries_of z) place u.0 u.1) (ap (λ (n : EntryView). n.input) u.2 ∙ is)) [
        | inl before ↦ absurd (b.all.facts.new place u.0 le u.1 before)
        | inr q ↦ subst IsSome (sym (number_is (entries_of z) place u.0 q.0 q.0.number u.1 q.1 refl)) refl
      ]

  -- where an answer gives an input
  given_input : (o : Option Input) → IsSome o → (x : Input) × (o ≡ Some x)
  given_input None some = cc
  given_input (Some x) some = (x, refl)

  asked : (q : Sent) (r : Reply) → Contains (xs ++ ys) (q, r) → IsGiven last q → q.guess ≡ None → IsSome (input_of r.answer) → (place : ℕ) × (request_at place ≡ Some q.number)
  asked q r there given none some =
      let f = found (xs ++ ys) z b.answered q r r.answer there refl in
      let gives = given_input (input_of r.answer) some in
      let s = b.all.holds.stands f.request r.answer gives.0 (its_given z q r.answer f given) gives.1 (guess_of f.request q f.same ∙ none) in
      let place = place_at (entries_of z) s.0 s.1 in
      (place.0, number_is (entries_of z) place.0 s.0 f.request q.number place.1 s.2 (number_of f.request q f.same))

  -- a request has one answer
  one_answer : (x y : Served) → Contains (all_served z) x → Contains (all_served z) y → x.0.number ≡ y.0.number → x ≡ y
  one_answer x y x_in y_in number =
      let i = place_at (all_served z) x x_in in
      let j = place_at (all_served z) y y_in in
      let same = rising_places (all_served z) (all_waiting z) b.all.facts.numbers.rising i.0 j.0 x y i.1 j.1 number in
      let both : Some x ≡ Some y = sym i.1 ∙ ap (slice_get (all_served z)) same ∙ j.1 in
      cc

  made : (q : Sent) (r : Reply) (place : ℕ) (n : EntryView) → Contains (xs ++ ys) (q, r) → request_at place ≡ Some q.number → slice_get (record_at last.desk.kernel) place ≡ Some n
      → (n.guess ≡ q.guess) × (q.guess ≡ None → input_of r.answer ≡ Some n.input)
  made q r place n there number at =
      let u = at_record drawn begun w z b.all place n at in
      let m = u.0 in
      let p = is_number q.number m.cause (ap number_at (sym u.1) ∙ number) in
      let here = contains_at (entries_of z) place m u.1 in
      let f = found (xs ++ ys) z b.answered q r r.answer there refl in
      let owner = b.all.facts.owners.owner m p.0 here p.1 in
      let its : p.0 ≡ f.request =
      rising_same (map (λ x. x.0) (all_served z) ++ all_waiting z) b.all.facts.numbers.rising p.0 f.request owner.0
      (Contains-append_left (map (λ x. x.0) (all_served z)) (all_waiting z) f.request (in_map (λ (x : Served). x.0) (all_served z) (f.request, r.answer) f.there)) (p.2 ∙ sym (number_of f.request q f.same)) in
      let guess : p.0.guess ≡ q.guess = ap (λ (q : PendingRequest). q.guess) its ∙ guess_of f.request q f.same in
      subst (λ (n : EntryView). (n.guess ≡ q.guess) × (q.guess ≡ None → input_of r.answer ≡ Some n.input)) u.2 (
        owner.1 ∙ guess,
        λ none.
            let a = b.all.facts.owners.asked m p.0 here p.1 (guess ∙ none) in
            let one = one_answer (p.0, a.0) (f.request, r.answer) (b.all.holds.within (p.0, a.0) a.1) f.there (ap (λ (q : PendingRequest). q.number) its) in
            subst (λ (y : Served). input_of y.1 ≡ Some m.input) one a.2,
      )

  within : (place number : ℕ) → request_at place ≡ Some number → IsSome (slice_get (record_at last.desk.kernel) place)
  within place number is =
      let x = numbered number (slice_get (entries_of z) place) is in
      subst IsSome (sym (in_record drawn begun w z b.all place x.0 x.1)) refl

  replied : StepsAreReplied begun (xs ++ ys) v last
  replied = record {
    request_at = request_at;
    within = within;
    once = one_entry (entries_of z) b.all.facts.owners.once;
    good = good;
    steps = steps;
    replies = replies;
    asked = asked;
    made = made;
    its = its;
  }

pub first_begins : (k : KernelView) (server : ServerView) → IsReady k → server.next ≡ 1 → Begins (joined (opened k) server)
first_begins k server ready next = record {
  ready = ready;
  world = ap (λ n. joined (opened_at k n) server) (sym next);
  last = omega (arith, next);
}

module _ (first : WorldView) (begins : Begins first) (es : List WorldEvent) (xs : Exchanges) (v : WorldView) (leads : Leads first es xs v) where
  -- how many guesses were drawn, and how long the record was
  abbrev drawn : ℕ
  drawn = last_guess first.desk.kernel

  abbrev begun : ℕ
  begun = length (record_at first.desk.kernel)

  abbrev start : World
  start = first_world first.desk.kernel first.server

  abbrev now : Comes drawn begun start xs v
  now = reached first.desk.kernel begins.ready first.server begins.last es xs v (subst (λ (w : WorldView). Leads w es xs v) begins.world leads)

  pub steps_are_taken : StepsAreTaken v
  steps_are_taken n new e = takes drawn begun start xs v now n new v.replies refl e

  pub forgotten_are_dropped : ForgottenAreDropped v
  forgotten_are_dropped n new e = forgets drawn begun start xs v now n new v.replies refl e

  pub places_kept : PlacesAreKept v
  places_kept = now.0.all.room

  pub replied_once : AreRepliedOnce xs v
  replied_once =
      let w = world_of drawn begun start xs v now.0 in
      let waits = law_served v.desk.taken v.replies in
      record {
        once = one_number xs w now.0.answered now.0.all.facts.numbers.rising;
        numbers = numbers_agree xs w now.0.answered;
        given = map (λ x. x.1) (map exchange_of now.0.given);
        order = ap (map (λ (x : Sent × Reply). x.1)) (sym now.0.answered ∙ map-append exchange_of now.0.given waits)
            ∙ map-append (λ (x : Sent × Reply). x.1) (map exchange_of now.0.given) (map exchange_of waits)
            ∙ ap (λ rs. map (λ (x : Sent × Reply). x.1) (map exchange_of now.0.given) ++ rs) (on_its_way v.replies v.back v.desk.taken now.1.replies);
      }

  -- a world begins over a new epoch of its desk
  pub begins_again : (left : TraceView × TerminalMap) (new : DeskView) → DeskEpochPost (Ok left) v.desk new → Begins (joined new v.server)
  begins_again left new e =
      let all = now.0.all in
      let room = all.room in
      let was : WasBooted v.desk.kernel = record { start = all.tidy; sound = all.traced.sound; place = omega (arith, room) } in
      let next = (no_requests v.desk v.server v.replies v.back e.0 now.1).next in
      let last = now.1.last in
      record {
        ready = (begins_anew v.desk.kernel new.kernel was e.1.0 e.1.3, ap undecided_at e.1.3.view);
        world = ap (λ (d : DeskView). joined d v.server) e.2 ∙ ap (λ n. joined (opened_at new.kernel n) v.server) next;
        last = omega (arith, last, next);
      }

  module _ (later : List WorldEvent) (ys : Exchanges) (last : WorldView) (more : Leads v later ys last) where
    abbrev hence : Reached drawn begun (world_of drawn begun start xs v now.0) (xs ++ ys) last
    hence = later_on drawn begun start xs v now later ys last more

    pub stores_stand : StoresStand xs v last
    stores_stand = stand drawn begun start xs v now.0 ys last hence

    pub stores_stood : StoresStood (xs ++ ys) v
    stores_stood = stood drawn begun start xs v now.0 ys last hence

    pub stand_apart : StandApart xs v last
    stand_apart = standing drawn begun start xs v now.0 ys last hence

    pub steps_are_replied : StepsAreReplied begun (xs ++ ys) v last
    steps_are_replied = replied drawn begun start xs v now.0 ys last hence
