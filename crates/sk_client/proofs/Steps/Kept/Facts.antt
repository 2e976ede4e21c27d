-- A world with its causes as its callers see it, its requests beside the invariant, and all that is shown to hold.
pub mod Held
pub use Held.*
use Rattle.std.specs.List.Sorted.{IsStrictlySortedBy}
use Rattle.sk_server.specs.declared.reply.Answer.TheVariants.{Copy}

-- ======== A world as its callers see it, with what the laws know of it besides. What the laws compute of
-- a kernel's trace, whose entries have causes, is what its callers compute.

-- the oldest requests have the replies that are on their way
abbrev pub law_served : List PendingRequest → List Reply → List Served
law_served (q ∷ qs) (r ∷ rs) = (q, r.answer) ∷ law_served qs rs
law_served (q ∷ qs) [] = []
law_served [] rs = []

-- the others are not answered yet
abbrev pub unanswered : List PendingRequest → List Reply → List PendingRequest
unanswered (q ∷ qs) (r ∷ rs) = unanswered qs rs
unanswered (q ∷ qs) [] = q ∷ qs
unanswered [] rs = []

-- a request with its answer, as the server sees the two
abbrev pub exchange_of : Served → Sent × Reply
exchange_of x = (sent x.0, record { number = x.0.number; answer = x.1 })

-- a world, the trace of its kernel with the cause of each entry, and the requests whose reply was given
pub record World : Type 0 where
  pub view : WorldView
  pub trace : List (Happens Caused)
  pub given : List Served

-- every request that was answered, and those that were not
abbrev pub all_served : World → List Served
all_served w = w.given ++ law_served w.view.desk.taken w.view.replies

abbrev pub all_waiting : World → List PendingRequest
all_waiting w = unanswered w.view.desk.taken w.view.replies ++ w.view.desk.waiting

-- the record
abbrev pub entries_of : World → List Caused
entries_of w = record_of (kernel (table w.view.desk.kernel.scripts)) w.view.desk.kernel.start w.trace

-- an entry, and an event, of before
abbrev pub from_before : EntryView → Caused
from_before n = record { process = n.pid; input = n.input; guess = n.guess; cause = Before }

abbrev pub event_before : Happens EntryView → Happens Caused
event_before (Taken n) = Taken (from_before n)
event_before (Commit g) = Commit g
event_before (Fail g) = Fail g

-- ---- the first of some numbers that rise

first_all : (d : ℕ) (gs : List ℕ) → IsStrictlySortedBy nat_cmp gs → (y : ℕ) → has y gs ≡ true → get_or gs 0 d ≤ y
unfolding IsStrictlySortedBy
first_all d [] rises y here = absurd (true≢false (sym here))
first_all d (g ∷ gs) rises y here = elim (or_cases (g == y) (has y gs) here) [
  | inl is ↦ (let same = eqb-true g y is in omega (arith, same))
  | inr later ↦ (let more = above g gs y rises.0 later in omega (arith, more))
]

first_next : (d : ℕ) (gs : List ℕ) → ((y : ℕ) → has y gs ≡ true → y ≤ d) → get_or gs 0 d ≤ d
first_next d [] low = omega arith
first_next d (g ∷ gs) low = low g (or_left (g == g) (has g gs) (eq-eqb g g refl))

-- ---- what the laws compute

commit_seen : (g : ℕ) (e : Happens Caused) → is_commit g e ≡ is_commit g (bare_event bare e)
commit_seen g (Taken n) = refl
commit_seen g e = refl

-- the number of the last guess after an event
pub last_more : (k : KernelView) (e : Logged) → last_guess (with_event k e) ≡ number_after (last_guess k) e
last_more k e = fold-append number_after (length k.earlier) k.trace (e ∷ [])

-- a kernel's trace is this one without its causes
pub record Traced (es : List (Happens Caused)) (k : KernelView) : Type 0 where
  pub trace : map (bare_event bare) es ≡ events_of k
  pub sound : HasSoundTrace k

module _ (es : List (Happens Caused)) (k : KernelView) (t : Traced es k) where
  pub entries_seen : map bare (record_of (kernel (table k.scripts)) k.start es) ≡ record_at k
  entries_seen = (is_bare bare (plain k.scripts) k.start es).entries ∙ ap (record_of (plain k.scripts) k.start) t.trace

  pub undecided_seen : undecided (table k.scripts) k.start es ≡ undecided_at k
  undecided_seen = (is_bare bare (plain k.scripts) k.start es).guesses ∙ ap (undecided_of (plain k.scripts) k.start) t.trace

  pub state_seen : state (table k.scripts) k.start es ≡ state_at k
  state_seen = (is_bare bare (plain k.scripts) k.start es).state ∙ ap (λ es. run (plain k.scripts) k.start (record_of (plain k.scripts) k.start es)) t.trace

  pub steps_seen : effects (kernel (table k.scripts)) k.start (record_of (kernel (table k.scripts)) k.start es) ≡ effects (plain k.scripts) k.start (record_at k)
  steps_seen = (is_bare bare (plain k.scripts) k.start es).steps ∙ ap (λ es. effects (plain k.scripts) k.start (record_of (plain k.scripts) k.start es)) t.trace

  -- what a step does
  pub does_seen : (p : ℕ) (input : Input) → outcome (kernel (table k.scripts)) (state (table k.scripts) k.start es) (own p input) ≡ effect_at k (entry p input None)
  does_seen p input = λ i. perform (get (state_seen i)) (act k.scripts p input)

  -- ---- what a request depends on

  abbrev marks_now : ℕ → Entity → Bool
  marks_now g e = is_in entity_cmp (dirt entity_cmp g [] (effects (kernel (table k.scripts)) k.start (record_of (kernel (table k.scripts)) k.start es))) e

  tag_seen : (g : ℕ) (e : Entity) → has g (undecided_at k) ≡ true → has g (tags_at k e) ≡ marks_now g e
  tag_seen g e there =
      has_filter (λ h. is_in entity_cmp (dirt entity_cmp h [] (effects (plain k.scripts) k.start (all_recorded (plain k.scripts) k.start no_record (events_of k)).entries)) e) g (undecided_at k)
      ∙ (λ i. is_in entity_cmp (dirt entity_cmp g [] (effects (plain k.scripts) k.start (entries_are (plain k.scripts) k.start (events_of k) i))) e && there i)
      ∙ and-true _
      ∙ ap (λ fs. is_in entity_cmp (dirt entity_cmp g [] fs) e) (sym steps_seen)

  pub made_seen : (q : PendingRequest) → q.rests ≡ rests_of k q.process (asked_name q.ask) → q.settled ≡ settled k → IsMadeAt (table k.scripts) k.start es (last_guess k) q
  made_seen q rests settled_is =
      let us = undecided_at k in
      let either : ℕ → Bool = λ g. has g (tags_at k (Proc q.process)) || has g (tags_at k (CopyOf (asked_name q.ask))) in
      let here : (y : ℕ) → has y (undecided (table k.scripts) k.start es) ≡ true → has y us ≡ true = λ y there. ap (has y) (sym undecided_seen) ∙ there in
      let next : suc (last_guess k) ≡ next_guess k = omega arith in
      record {
        opens = λ y there. ap (has y) undecided_seen ∙ has_filtered either us y (ap (has y) (sym rests) ∙ there);
        covers = λ y there tag. ap (has y) rests ∙ has_filter either y us
            ∙ (λ i. (tag_seen y (Proc q.process) (here y there) i || tag_seen y (CopyOf (asked_name q.ask)) (here y there) i) && here y there i) ∙ and-true _ ∙ tag;
        low = λ y there. subst (λ n. n ≤ y) (sym settled_is) (first_all (next_guess k) us (undecided_sorted k t.sound) y (here y there));
        next = subst (λ n. n ≤ suc (last_guess k)) (sym settled_is) (subst (λ n. settled k ≤ n) (sym next) (first_next (next_guess k) us
            (λ y there. (let less = below_next k t.sound y (entry_drawn (plain k.scripts) k.start (events_of k) t.sound.sound y ((is_undecided (plain k.scripts) k.start (events_of k) t.sound.sound y).0 there).2) in omega (arith, less)))));
      }

  -- ---- guesses that are lost

  committed_seen : (g : ℕ) → list_any (is_commit g) es ≡ list_any (is_commit g) (events_of k)
  committed_seen g = (λ i. list_any (λ e. commit_seen g e i) es) ∙ sym (any_map (is_commit g) (bare_event bare) es) ∙ ap (list_any (is_commit g)) t.trace

  lost_seen : (g : ℕ) → law_lost (table k.scripts) k.start es g ≡ is_lost k g
  lost_seen g = λ i. not (has g (undecided_seen i)) && not ((committed_seen g ∙ sym (committed_is k t.sound g)) i)

  pub void_seen : (q : PendingRequest) → law_void (table k.scripts) k.start es q ≡ is_void k q
  void_seen q = λ i. list_any (λ g. lost_seen g i) q.rests

  -- ---- one event more

  more : (n : Happens Caused) (e : Logged) → bare_event bare n ≡ image e → HasSoundTrace (with_event k e) → Traced (es ++ n ∷ []) (with_event k e)
  more n e same sound = record {
    trace = map-append (bare_event bare) es (n ∷ []) ∙ (λ i. t.trace i ++ same i ∷ []) ∙ sym (map-append image k.trace (e ∷ []));
    sound = sound;
  }

  pub traced_step : (p : ℕ) (input : Input) (n : Caused) (f : Did) → bare n ≡ entry p input None → effect_at k (entry p input None) ≡ Ok f → Traced (es ++ Taken n ∷ []) (with_event k (Logged.Step p input))
  traced_step p input n f same is = more (Taken n) (Logged.Step p input) (ap Taken same) (step_sound k t.sound p input f is)

  pub traced_guess : (p : ℕ) (n : Caused) (f : Did) → bare n ≡ entry p Input.Good (Some (next_guess k)) → effect_at k (entry p Input.Good (Some (next_guess k))) ≡ Ok f
      → Traced (es ++ Taken n ∷ []) (with_event k (Logged.Guess (next_guess k) p Input.Good))
  traced_guess p n f same is = more (Taken n) (Logged.Guess (next_guess k) p Input.Good) (ap Taken same) (guess_sound k t.sound p Input.Good f is)

  module _ (g : ℕ) (here : has g (undecided_at k) ≡ true) where
    pub traced_commit : Traced (es ++ Commit g ∷ []) (with_event k (Logged.Commit g))
    traced_commit = more (Commit g) (Logged.Commit g) refl (commit_sound k t.sound g here)

    pub traced_fail : Traced (es ++ Fail g ∷ []) (with_event k (Logged.Fail g))
    traced_fail = more (Fail g) (Logged.Fail g) refl (fail_sound k t.sound g here)

-- ======== What holds of a world's requests beside the invariant: kept answers, request numbers, the request of each entry, and commits.

-- ---- request numbers
abbrev pub Rising : List PendingRequest → Type 0
Rising qs = Pairs (λ q r. q.number < r.number) qs

pub rising_same : (qs : List PendingRequest) → Rising qs → (q r : PendingRequest) → Contains qs q → Contains qs r → q.number ≡ r.number → q ≡ r
rising_same [] h q r q_in r_in same = absurd (no_member q q_in)
rising_same (x ∷ qs) h q r q_in r_in same =
    elim (cons_cases x qs q q_in) [
      | inl x_q ↦ elim (cons_cases x qs r r_in) [
        | inl x_r ↦ sym x_q ∙ x_r
        | inr r_later ↦ absurd (let lt = h.0 r r_later in let eq = ap (λ (r : PendingRequest). r.number) x_q in omega arith)
      ]
      | inr q_later ↦ elim (cons_cases x qs r r_in) [
        | inl x_r ↦ absurd (let lt = h.0 q q_later in let eq = ap (λ (r : PendingRequest). r.number) x_r in omega arith)
        | inr r_later ↦ rising_same qs h.1 q r q_later r_later same
      ]
    ]

pub rising_apart : (xs ys : List PendingRequest) → Rising (xs ++ ys) → (q r : PendingRequest) → Contains xs q → Contains ys r → q.number < r.number
rising_apart [] ys h q r none there = absurd (no_member q none)
rising_apart (x ∷ xs) ys h q r here there =
    elim (cons_cases x xs q here) [
      | inl is ↦ subst (λ (q : PendingRequest). q.number < r.number) is (h.0 r (Contains-append_right xs ys r there))
      | inr later ↦ rising_apart xs ys h.1 q r later there
    ]

-- no two entries are one request's
abbrev pub Once : List Caused → Type 0
Once ns = Pairs (λ n o. (q r : PendingRequest) → n.cause ≡ For q → o.cause ≡ For r → q.number ≡ r.number → ⊥) ns

pub once_keep : (bs : List Bool) (ns : List Caused) → Once ns → Once (keep bs ns)
once_keep [] ns h = h
once_keep (b ∷ bs) [] h = tt
once_keep (true ∷ bs) (n ∷ ns) h = once_keep bs ns h.1
once_keep (false ∷ bs) (n ∷ ns) h = ((λ o there. h.0 o (kept_was bs ns o there)), once_keep bs ns h.1)

pub record Numbers (next : ℕ) (qs : List PendingRequest) : Type 0 where
  pub below : (q : PendingRequest) → Contains qs q → q.number < next
  pub rising : Rising qs

pub numbers_push : (next : ℕ) (qs : List PendingRequest) (q : PendingRequest) → q.number ≡ next → Numbers next qs → Numbers (suc next) (qs ++ q ∷ [])
numbers_push next qs q is h = record {
  below = pushed qs q (λ r before. let lt = h.below r before in omega arith) (omega arith);
  rising = pairs_push (λ (q r : PendingRequest). q.number < r.number) qs q h.rising (λ r there. let lt = h.below r there in omega arith);
}

-- ---- the request of each entry
pub record Owners (drawn : ℕ) (ns : List Caused) (given : List Served) (qs : List PendingRequest) : Type 0 where
  pub good : (n : Caused) → Contains ns n → n.input ≡ Good → (n.cause ≡ Before) ⊎ ((q : PendingRequest) × (n.cause ≡ For q))
  pub owner : (n : Caused) (q : PendingRequest) → Contains ns n → n.cause ≡ For q → Contains qs q × (n.guess ≡ q.guess) × ((g : ℕ) → q.guess ≡ Some g → drawn < g)
  pub asked : (n : Caused) (q : PendingRequest) → Contains ns n → n.cause ≡ For q → q.guess ≡ None → (a : Answer) × Contains given (q, a) × (input_of a ≡ Some n.input)
  pub once : Once ns

pub owners_more : (drawn : ℕ) (ns : List Caused) (given later : List Served) (qs rs : List PendingRequest) → ((x : Served) → Contains given x → Contains later x)
    → ((q : PendingRequest) → Contains qs q → Contains rs q) → Owners drawn ns given qs → Owners drawn ns later rs
owners_more drawn ns given later qs rs more_given more h = record {
  good = h.good;
  owner = λ n q there is. let o = h.owner n q there is in (more q o.0, o.1, o.2);
  asked = λ n q there is asks. let a = h.asked n q there is asks in (a.0, more_given (q, a.0) a.1, a.2);
  once = h.once;
}

pub owners_keep : (drawn : ℕ) (bs : List Bool) (ns : List Caused) (given : List Served) (qs : List PendingRequest) → Owners drawn ns given qs → Owners drawn (keep bs ns) given qs
owners_keep drawn bs ns given qs h = record {
  good = λ n there. h.good n (kept_was bs ns n there);
  owner = λ n q there. h.owner n q (kept_was bs ns n there);
  asked = λ n q there. h.asked n q (kept_was bs ns n there);
  once = once_keep bs ns h.once;
}

-- an own entry
pub owners_own : (drawn : ℕ) (ns : List Caused) (n : Caused) (given : List Served) (qs : List PendingRequest) → n.cause ≡ Own → (n.input ≡ Good → ⊥)
    → Owners drawn ns given qs → Owners drawn (ns ++ n ∷ []) given qs
owners_own drawn ns n given qs own bad h =
    let not_for : (o : Caused) → n ≡ o → (q : PendingRequest) → o.cause ≡ For q → ⊥ =
    λ o is q for. (let both : Own ≡ For q = sym own ∙ ap (λ (n : Caused). n.cause) is ∙ for in cc) in
    record {
      good = λ o there good. elim (Contains-push_cases ns n o there) [ inl before ↦ h.good o before good | inr is ↦ absurd (bad (ap (λ (n : Caused). n.input) is ∙ good)) ];
      owner = λ o q there for. elim (Contains-push_cases ns n o there) [ inl before ↦ h.owner o q before for | inr is ↦ absurd (not_for o is q for) ];
      asked = λ o q there for asks. elim (Contains-push_cases ns n o there) [ inl before ↦ h.asked o q before for asks | inr is ↦ absurd (not_for o is q for) ];
      once = pairs_push _ ns n h.once (λ o there q r o_is n_is same. not_for n refl r n_is);
    }

-- the entry of a request
pub owners_for : (drawn : ℕ) (ns : List Caused) (n : Caused) (q : PendingRequest) (given : List Served) (qs : List PendingRequest) → n.cause ≡ For q
    → Contains qs q → n.guess ≡ q.guess → ((g : ℕ) → q.guess ≡ Some g → drawn < g)
    → (q.guess ≡ None → (a : Answer) × Contains given (q, a) × (input_of a ≡ Some n.input))
    → ((o : Caused) (r : PendingRequest) → Contains ns o → o.cause ≡ For r → r.number ≡ q.number → ⊥)
    → Owners drawn ns given qs → Owners drawn (ns ++ n ∷ []) given qs
owners_for drawn ns n q given qs own there mark above asks new h =
    let same : (o : Caused) → n ≡ o → (r : PendingRequest) → o.cause ≡ For r → q ≡ r =
    λ o is r for. (let both : For q ≡ For r = sym own ∙ ap (λ (n : Caused). n.cause) is ∙ for in cc) in
    record {
      good = λ o o_in good. elim (Contains-push_cases ns n o o_in) [ inl before ↦ h.good o before good | inr is ↦ inr (q, ap (λ (n : Caused). n.cause) (sym is) ∙ own) ];
      owner = λ o r o_in for. elim (Contains-push_cases ns n o o_in) [
        | inl before ↦ h.owner o r before for
        | inr is ↦
            let one = same o is r for in (
              subst (Contains qs) one there,
              ap (λ (n : Caused). n.guess) (sym is) ∙ mark ∙ ap (λ (r : PendingRequest). r.guess) one,
              λ g g_is. above g (ap (λ (r : PendingRequest). r.guess) one ∙ g_is),
            )
      ];
      asked = λ o r o_in for none. elim (Contains-push_cases ns n o o_in) [
        | inl before ↦ h.asked o r before for none
        | inr is ↦
            let one = same o is r for in
            let a = asks (ap (λ (r : PendingRequest). r.guess) one ∙ none) in
            (a.0, subst (λ r. Contains given (r, a.0)) one a.1, subst (λ (n : Caused). input_of a.0 ≡ Some n.input) is a.2)
      ];
      once = pairs_push _ ns n h.once (λ o o_in r s o_is n_is numbers. new o r o_in o_is (numbers ∙ ap (λ (r : PendingRequest). r.number) (sym (same n refl s n_is))));
    }

-- ---- what was committed
pub record Decided (drawn : ℕ) (es : List (Event Caused)) (given : List Served) : Type 0 where
  pub committed : (q : PendingRequest) (g : ℕ) → Contains given (q, Yes) → q.guess ≡ Some g → Contains es (Commit g)
  pub done : (g : ℕ) → Contains es (Commit g) → (g ≤ drawn) ⊎ ((q : PendingRequest) × Contains given (q, Yes) × (q.guess ≡ Some g))

pub decided_other : (drawn : ℕ) (es : List (Event Caused)) (e : Event Caused) (given : List Served) → ((g : ℕ) → e ≡ Commit g → ⊥) → Decided drawn es given → Decided drawn (es ++ e ∷ []) given
decided_other drawn es e given other h = record {
  committed = λ q g there is. Contains-append_left es (e ∷ []) (Commit g) (h.committed q g there is);
  done = λ g there. elim (Contains-push_cases es e (Commit g) there) [ inl before ↦ h.done g before | inr is ↦ absurd (other g is) ];
}

pub decided_given : (drawn : ℕ) (es : List (Event Caused)) (given : List Served) (x : Served) → ((g : ℕ) → x.1 ≡ Yes → x.0.guess ≡ Some g → Contains es (Commit g))
    → Decided drawn es given → Decided drawn es (given ++ x ∷ [])
decided_given drawn es given x new h = record {
  committed = λ q g there is. elim (Contains-push_cases given x (q, Yes) there) [
    | inl before ↦ h.committed q g before is
    | inr same ↦ new g (ap (λ (x : Served). x.1) same) (ap (λ (x : Served). x.0.guess) same ∙ is)
  ];
  done = λ g there. elim (h.done g there) [ inl before ↦ inl before | inr q ↦ inr (q.0, Contains-append_left given (x ∷ []) (q.0, Yes) q.1, q.2) ];
}

pub decided_commit : (drawn : ℕ) (es : List (Event Caused)) (given : List Served) (q : PendingRequest) (g : ℕ) → q.guess ≡ Some g
    → Decided drawn es given → Decided drawn (es ++ Commit g ∷ []) (given ++ (q, Yes) ∷ [])
decided_commit drawn es given q g its h = record {
  committed = λ r k there is. elim (Contains-push_cases given (q, Yes) (r, Yes) there) [
    | inl before ↦ Contains-append_left es (Commit g ∷ []) (Commit k) (h.committed r k before is)
    | inr same ↦
        let both : Some g ≡ Some k = sym its ∙ ap (λ (x : Served). x.0.guess) same ∙ is in
        let one : g ≡ k = cc in
        subst (λ k. Contains (es ++ Commit g ∷ []) (Commit k)) one (Contains-push es (Commit g))
  ];
  done = λ k there. elim (Contains-push_cases es (Commit g) (Commit k) there) [
    | inl before ↦ elim (h.done k before) [ inl old ↦ inl old | inr r ↦ inr (r.0, Contains-append_left given ((q, Yes) ∷ []) (r.0, Yes) r.1, r.2) ]
    | inr is ↦ let one : g ≡ k = cc in inr (q, Contains-push given (q, Yes), its ∙ ap Some one)
  ];
}

-- ---- lists of requests
pub map_front : {A B : Type 0} (f : A → B) (xs ys : List A) (zs : List B) → map f (xs ++ ys) ++ zs ≡ map f xs ++ (map f ys ++ zs)
map_front f xs ys zs = ap (λ bs. bs ++ zs) (map-append f xs ys) ∙ append_assoc (map f xs) (map f ys) zs

-- no process is kept a Good
abbrev pub NoGood : List KeptAnswer → Type 0
NoGood ks = (k : KeptAnswer) → Contains ks k → k.input ≡ Good → ⊥

-- ---- what is in a record from this place on was not there before
abbrev pub IsNew : ℕ → List Caused → Type 0
IsNew place ns = (i : ℕ) (n : Caused) → place ≤ i → slice_get ns i ≡ Some n → n.cause ≡ Before → ⊥

new_push : (place : ℕ) (ns : List Caused) (n : Caused) → (n.cause ≡ Before → ⊥) → IsNew place ns → IsNew place (ns ++ n ∷ [])
new_push place ns n new h i m le at before =
    elim (at_push ns n i m at) [
      | inl there ↦ h i m le there before
      | inr is ↦ new (ap (λ (n : Caused). n.cause) is ∙ before)
    ]

new_keep : (place : ℕ) (bs : List Bool) (ns : List Caused) → IsNew place ns → IsNew place (keep bs ns)
new_keep place bs ns h i m le at before = (let k = at_kept bs ns i m at in let more = k.1 in h k.0 m (omega (arith, le, more)) k.2 before)

-- ---- all of these, and the events
module _ {E V W F : Type 0} (S : Table E V W F) (start : FinMap S.order V) (drawn begun : ℕ) (old : World) where
  abbrev pub requests : List Served → List PendingRequest → List PendingRequest
  requests served waiting = map (λ x. x.0) served ++ waiting

  requests_push : (served : List Served) (waiting : List PendingRequest) (q : PendingRequest) → requests served waiting ++ q ∷ [] ≡ requests served (waiting ++ q ∷ [])
  requests_push served waiting q = append_assoc (map (λ (x : Served). x.0) served) waiting (q ∷ [])

  abbrev pub Came : List Caused → Type 0
  Came ns =
      (n : Caused) (q : PendingRequest) (g : ℕ) → Contains ns n → n.cause ≡ For q → q.guess ≡ Some g → q.number < old.view.desk.next
      → Contains (entries_of old) n

  pub record RequestFacts (es : List (Event Caused)) (d : ℕ) (next : ℕ) (served given : List Served) (waiting : List PendingRequest) : Type 0 where
    pub low : drawn ≤ d
    pub numbers : Numbers next (requests served waiting)
    pub owners : Owners drawn (record_of (kernel S) start es) given (requests served waiting)
    pub decided : Decided drawn es given
    -- what was answered or given before stays so
    pub still_served : (x : Served) → Contains (all_served old) x → Contains served x
    pub still_given : (x : Served) → Contains old.given x → Contains given x
    -- and each request that was made
    pub still_made : (q : PendingRequest) → Contains (requests (all_served old) (all_waiting old)) q → Contains (requests served waiting) q
    pub new : IsNew begun (record_of (kernel S) start es)
    -- the step of a guess that was made before was there before
    pub came : Came (record_of (kernel S) start es)
    pub reach : old.view.desk.next ≤ next

  module _ (es : List (Event Caused)) (d : ℕ) (next : ℕ) (served given : List Served) (waiting : List PendingRequest)
      (t : RequestFacts es d next served given waiting) where
    -- after these events, with these replies given
    facts_event : (e : ℕ) (later : List (Event Caused)) (more : List Served) → d ≤ e → ((x : Served) → Contains given x → Contains more x) → IsNew begun (record_of (kernel S) start later)
        → Came (record_of (kernel S) start later) → Owners drawn (record_of (kernel S) start later) more (requests served waiting) → Decided drawn later more
        → RequestFacts later e next served more waiting
    facts_event e later more le kept_given new came owners decided = record {
      low = le_trans t.low le;
      numbers = t.numbers;
      owners = owners;
      decided = decided;
      still_served = t.still_served;
      still_given = λ x there. kept_given x (t.still_given x there);
      still_made = t.still_made;
      new = new;
      came = came;
      reach = t.reach;
    }

    -- an entry that was not there before
    new_taken : (n : Caused) → (n.cause ≡ Before → ⊥) → IsNew begun (record_of (kernel S) start (es ++ Taken n ∷ []))
    new_taken n other = subst (IsNew begun) (sym (record_more (kernel S) start es (Taken n))) (new_push begun (record_of (kernel S) start es) n other t.new)

    came_taken : (n : Caused) → ((q : PendingRequest) (g : ℕ) → n.cause ≡ For q → q.guess ≡ Some g → q.number < old.view.desk.next → ⊥) → Came (record_of (kernel S) start (es ++ Taken n ∷ []))
    came_taken n none =
        subst Came (sym (record_more (kernel S) start es (Taken n)))
        (λ o q g there for its was. elim (Contains-push_cases (record_of (kernel S) start es) n o there) [
          | inl before ↦ t.came o q g before for its was
          | inr is ↦ absurd (none q g (ap (λ (n : Caused). n.cause) is ∙ for) its was)
        ])

    pub facts_own : (n : Caused) → n.cause ≡ Own → (n.input ≡ Good → ⊥) → RequestFacts (es ++ Taken n ∷ []) d next served given waiting
    facts_own n own bad =
        facts_event d (es ++ Taken n ∷ []) given (omega arith) (λ x there. there)
        (new_taken n (λ before. (let both : Own ≡ Before = sym own ∙ before in cc)))
        (came_taken n (λ q g for its was. (let both : Own ≡ For q = sym own ∙ for in cc)))
        (subst (λ ns. Owners drawn ns given (requests served waiting)) (sym (record_more (kernel S) start es (Taken n)))
        (owners_own drawn (record_of (kernel S) start es) n given (requests served waiting) own bad t.owners))
        (decided_other drawn es (Taken n) given (λ g is. cc) t.decided)

    -- with these requests
    facts_listed : (n : ℕ) (more : List Served) (later : List PendingRequest) → next ≤ n → ((x : Served) → Contains served x → Contains more x) → Numbers n (requests more later)
        → ((q : PendingRequest) → Contains (requests served waiting) q → Contains (requests more later) q) → RequestFacts es d n more given later
    facts_listed n more later le still numbers made = record {
      low = t.low;
      numbers = numbers;
      owners = owners_more drawn (record_of (kernel S) start es) given given (requests served waiting) (requests more later) (λ x there. there) made t.owners;
      decided = t.decided;
      still_served = λ x there. still x (t.still_served x there);
      still_given = t.still_given;
      still_made = λ q there. made q (t.still_made q there);
      new = t.new;
      came = t.came;
      reach = le_trans t.reach le;
    }

    pub facts_ask : (q : PendingRequest) → q.number ≡ next → RequestFacts es d (suc next) served given (waiting ++ q ∷ [])
    facts_ask q is =
        let same = requests_push served waiting q in
        facts_listed (suc next) served (waiting ++ q ∷ []) (omega arith) (λ x there. there) (subst (Numbers (suc next)) same (numbers_push next (requests served waiting) q is t.numbers))
        (λ r there. subst (λ rs. Contains rs r) same (Contains-append_left (requests served waiting) (q ∷ []) r there))

    -- a reply x is given
    given_owners : (x : Served) → Owners drawn (record_of (kernel S) start es) (given ++ x ∷ []) (requests served waiting)
    given_owners x =
        owners_more drawn (record_of (kernel S) start es) given (given ++ x ∷ []) (requests served waiting) (requests served waiting) (λ y there. Contains-append_left given (x ∷ []) y there) (λ r there. there) t.owners

    keeps_given : (x y : Served) → Contains given y → Contains (given ++ x ∷ []) y
    keeps_given x y there = Contains-append_left given (x ∷ []) y there

    pub facts_none : (x : Served) → ((g : ℕ) → x.1 ≡ Yes → x.0.guess ≡ Some g → Contains es (Commit g)) → RequestFacts es d next served (given ++ x ∷ []) waiting
    facts_none x new = facts_event d es (given ++ x ∷ []) (omega arith) (keeps_given x) t.new t.came (given_owners x) (decided_given drawn es given x new t.decided)

    pub facts_commit : (q : PendingRequest) (g : ℕ) → q.guess ≡ Some g → RequestFacts (es ++ Commit g ∷ []) d next served (given ++ (q, Yes) ∷ []) waiting
    facts_commit q g its =
        let same = sym (record_more (kernel S) start es (Commit g)) in
        facts_event d (es ++ Commit g ∷ []) (given ++ (q, Yes) ∷ []) (omega arith) (keeps_given (q, Yes)) (subst (IsNew begun) same t.new) (subst Came same t.came)
        (subst (λ ns. Owners drawn ns (given ++ (q, Yes) ∷ []) (requests served waiting)) same (given_owners (q, Yes)))
        (decided_commit drawn es given q g its t.decided)

    pub facts_fail : (x : Served) (g : ℕ) → (x.1 ≡ Yes → ⊥) → RequestFacts (es ++ Fail g ∷ []) d next served (given ++ x ∷ []) waiting
    facts_fail x g no_yes =
        let ns = record_of (kernel S) start es in
        let bs = struck (kernel S) start ns g in
        let same = sym (record_more (kernel S) start es (Fail g)) in
        facts_event d (es ++ Fail g ∷ []) (given ++ x ∷ []) (omega arith) (keeps_given x) (subst (IsNew begun) same (new_keep begun bs ns t.new))
        (subst Came same (λ o r h there. t.came o r h (kept_was bs ns o there)))
        (subst (λ ns. Owners drawn ns (given ++ x ∷ []) (requests served waiting)) same (owners_keep drawn bs ns (given ++ x ∷ []) (requests served waiting) (given_owners x)))
        (decided_given drawn (es ++ Fail g ∷ []) given x (λ h says. absurd (no_yes says)) (decided_other drawn es (Fail g) given (λ h e. cc) t.decided))

    -- the step of an asked request, which is the first that has no reply
    pub facts_step : (q : PendingRequest) (a : Answer) (rest : List Served) (n : Caused) → served ≡ given ++ (q, a) ∷ rest → n.cause ≡ For q → n.guess ≡ None → q.guess ≡ None
        → input_of a ≡ Some n.input → RequestFacts (es ++ Taken n ∷ []) d next served (given ++ (q, a) ∷ []) waiting
    facts_step q a rest n split own mark asks gives =
        let ns = record_of (kernel S) start es in
        let rs = requests served waiting in
        let order : rs ≡ map (λ x. x.0) given ++ q ∷ (map (λ x. x.0) rest ++ waiting) =
        ap (λ xs. requests xs waiting) split ∙ map_front (λ (x : Served). x.0) given ((q, a) ∷ rest) waiting in
        let there : Contains rs q = subst (λ rs. Contains rs q) (sym order) (Contains-append_right (map (λ x. x.0) given) (q ∷ (map (λ x. x.0) rest ++ waiting)) q (cons_first q (map (λ x. x.0) rest ++ waiting))) in
        facts_event d (es ++ Taken n ∷ []) (given ++ (q, a) ∷ []) (omega arith) (keeps_given (q, a))
        (new_taken n (λ before. (let both : For q ≡ Before = sym own ∙ before in cc)))
        (came_taken n (λ r g for its _.
        let both : For q ≡ For r = sym own ∙ for in
        let one : q ≡ r = cc in
        no_guess q.guess g asks (ap (λ (r : PendingRequest). r.guess) one ∙ its)))
        (subst (λ ns. Owners drawn ns (given ++ (q, a) ∷ []) rs) (sym (record_more (kernel S) start es (Taken n)))
        (owners_for drawn ns n q (given ++ (q, a) ∷ []) rs own there (mark ∙ sym asks) (λ g some. absurd (no_guess q.guess g asks some))
        (λ none. (a, Contains-push given (q, a), gives))
        (λ o r o_in o_is same.
        let r_in = (t.owners.owner o r o_in o_is).0 in
        let one : r ≡ q = rising_same rs t.numbers.rising r q r_in there same in
        let old = t.owners.asked o r o_in o_is (ap (λ (r : PendingRequest). r.guess) one ∙ asks) in
        let lt = rising_apart (map (λ x. x.0) given) (q ∷ (map (λ x. x.0) rest ++ waiting)) (subst Rising order t.numbers.rising) r q
        (in_map (λ (x : Served). x.0) given (r, old.0) old.1) (cons_first q (map (λ x. x.0) rest ++ waiting)) in
        omega arith)
        (given_owners (q, a))))
        (decided_given drawn (es ++ Taken n ∷ []) given (q, a) (λ g says its. absurd (no_guess q.guess g asks its)) (decided_other drawn es (Taken n) given (λ h e. cc) t.decided))

  module _ (es : List (Event Caused)) (d : ℕ) (next : ℕ) (served given : List Served) where
    pub facts_serve : (q : PendingRequest) (a : Answer) (waiting : List PendingRequest) → RequestFacts es d next served given (q ∷ waiting) → RequestFacts es d next (served ++ (q, a) ∷ []) given waiting
    facts_serve q a waiting t =
        let same : requests served (q ∷ waiting) ≡ requests (served ++ (q, a) ∷ []) waiting = sym (map_front (λ (x : Served). x.0) served ((q, a) ∷ []) waiting) in
        facts_listed es d next served given (q ∷ waiting) t next (served ++ (q, a) ∷ []) waiting (omega arith) (λ x there. Contains-append_left served ((q, a) ∷ []) x there)
        (subst (Numbers next) same t.numbers) (λ r there. subst (λ rs. Contains rs r) same there)

    pub facts_guess : (waiting : List PendingRequest) (t : RequestFacts es d next served given waiting) (q : PendingRequest) (n : Caused) → q.number ≡ next → q.guess ≡ Some (suc d)
        → n.cause ≡ For q → n.guess ≡ q.guess → RequestFacts (es ++ Taken n ∷ []) (suc d) (suc next) served given (waiting ++ q ∷ [])
    facts_guess waiting t q n is guess own mark =
        let asks = facts_ask es d next served given waiting t q is in
        let rs = requests served (waiting ++ q ∷ []) in
        let low = t.low in
        facts_event es d (suc next) served given (waiting ++ q ∷ []) asks (suc d) (es ++ Taken n ∷ []) given (omega arith) (λ x there. there)
        (new_taken es d next served given waiting t n (λ before. (let both : For q ≡ Before = sym own ∙ before in cc)))
        (came_taken es d next served given waiting t n (λ r g for its was.
        let both : For q ≡ For r = sym own ∙ for in
        let one : q ≡ r = cc in
        let eq = ap (λ (r : PendingRequest). r.number) one in
        let le = t.reach in
        omega (arith, eq, le, was, is)))
        (subst (λ ns. Owners drawn ns given rs) (sym (record_more (kernel S) start es (Taken n)))
        (owners_for drawn (record_of (kernel S) start es) n q given rs own
        (subst (λ rs. Contains rs q) (requests_push served waiting q) (Contains-push (requests served waiting) q)) mark
        (λ g g_is. (let both : Some (suc d) ≡ Some g = sym guess ∙ g_is in let one : suc d ≡ g = cc in omega arith))
        (λ none. absurd (no_guess q.guess (suc d) none guess))
        (λ o r o_in o_is same. let lt = t.numbers.below r (t.owners.owner o r o_in o_is).0 in omega arith)
        asks.owners))
        (decided_other drawn es (Taken n) given (λ g e. cc) t.decided)

-- ======== A world that some events lead to, with all that is shown to hold of it after every event.

-- a guess is made of what is cached, and a question asks for a file or a store
abbrev pub IsFor : Option ℕ → Ask → Type 0
IsFor (Some g) (Get name) = ⊥
IsFor None (Check name version) = ⊥
IsFor g ask = Unit {0}

abbrev pub AreFor : List PendingRequest → Type 0
AreFor [] = Unit {0}
AreFor (q ∷ qs) = IsFor q.guess q.ask × AreFor qs

pub more_for : (qs : List PendingRequest) (q : PendingRequest) → AreFor qs → IsFor q.guess q.ask → AreFor (qs ++ q ∷ [])
more_for [] q all is = (is, tt)
more_for (x ∷ xs) q all is = (all.0, more_for xs q all.1 is)

-- an answer that fits a guess is no copy
pub not_copied : (ask : Ask) (c : ContentView) (g : ℕ) → IsFor (Some g) ask → fits_ask ask (Copy c) ≡ true → ⊥
not_copied (Get m) c g kind fits = kind
not_copied ask c g kind fits = true≢false (sym fits)

-- the step that an asked request's answer gives is accepted
pub takes_by : {E V W F : Type 0} (S : Table E V W F) (start s : FinMap S.order V) (p : ℕ) (ask : Ask) (ans : Answer) (x : Input) → IsFor None ask → fits_ask ask ans ≡ true
    → ReadyFor S start s p ask → input_of ans ≡ Some x → ((m : Bytes) (v : ℕ) (b : Bytes) → ask ≡ Store m v b → ans ≡ Yes → v < S.last) → Takes S s p ask x
takes_by S start s p (Get m) (Copy c) x kind fit ready is fits = let same : Fresh c ≡ x = cc in subst (Takes S s p (Get m)) same (ready c)
takes_by S start s p (Check m v) ans x kind fit ready is fits = absurd kind
takes_by S start s p (Store m v b) Yes x kind fit ready is fits = let same : Good ≡ x = cc in subst (Takes S s p (Store m v b)) same (ready.0 (fits m v b refl refl))
takes_by S start s p (Store m v b) (No c) x kind fit ready is fits = let same : Stale c ≡ x = cc in subst (Takes S s p (Store m v b)) same (ready.1 c)
takes_by S start s p ask ans x kind fit ready is fits = cc

-- only an answer that accepts gives Good to an asked step
pub good_yes : (ans : Answer) → input_of ans ≡ Some Good → ans ≡ Yes
good_yes Yes is = refl
good_yes ans is = cc

-- a guess that an answer refuses is remembered
pub refused_there : (o : Option ℕ) (a : Answer) (g : ℕ) → o ≡ Some g → is_accepted a ≡ false → has g (marks (refused_by o a)) ≡ true
refused_there o Yes g its bad = absurd (true≢false bad)
refused_there o (Copy c) g its bad = absurd (true≢false bad)
refused_there o a g its bad = ap (λ o. has g (marks o)) its ∙ ap (λ b. b || false) (eq-eqb g g refl)

-- ---- kept answers

pub forgets : (kept : List KeptAnswer) → NoGood kept → (p : ℕ) → NoGood (forgotten p kept)
forgets kept answers p k there = answers k (filter_was (λ (k : KeptAnswer). not (k.process == p)) kept k there)

pub never_good : (ask : Ask) (a : Answer) (x : Input) → answer_kept ask a ≡ Some x → x ≡ Good → ⊥
never_good (Get m) Yes x is good = cc
never_good (Check m v) Yes x is good = cc
never_good (Store m v b) Yes x is good = cc
never_good ask a x is good = cc

pub keeps_input : (kept : List KeptAnswer) → NoGood kept → (p : ℕ) (o : Option Input) → ((x : Input) → o ≡ Some x → x ≡ Good → ⊥) → NoGood (kept_after p o kept)
keeps_input kept answers p None never = answers
keeps_input kept answers p (Some x) never =
    pushed (forgotten p kept) (record { process = p; input = x }) (forgets kept answers p) (never x refl)

pub no_good : (kept : List KeptAnswer) → NoGood kept → (p : ℕ) (x : Input) → kept_for p kept ≡ Some x → x ≡ Good → ⊥
no_good [] answers p x is good = cc
no_good (k ∷ ks) answers p x is good =
    elim (k.process == p) as (λ b. cond b (Some k.input) (kept_for p ks) ≡ Some x → ⊥) [
      | true ↦ λ is. answers k (cons_first k ks) (let same : k.input ≡ x = cc in same ∙ good)
      | false ↦ λ is. no_good ks (λ j there. answers j (cons_later k ks j there)) p x is good
    ] is

-- ---- asked requests

-- no asked request of this process, and none on this name
pub not_its : (qs : List PendingRequest) (p : ℕ) → asks_for p qs ≡ false → (q : PendingRequest) → Contains qs q → q.guess ≡ None → p ≡ q.process → ⊥
not_its qs p none q there asks same =
    true≢false (sym (any_at (λ (q : PendingRequest). is_none q.guess && (q.process == p)) qs q there
    (λ i. is_none (asks i) && eq-eqb q.process p (sym same) i)) ∙ none)

pub not_on : (qs : List PendingRequest) (m : Bytes) → asks_on m qs ≡ false → (q : PendingRequest) → Contains qs q → q.guess ≡ None → m ≡ asked_name q.ask → ⊥
not_on qs m none q there asks same =
    true≢false (sym (any_at (λ (q : PendingRequest). is_none q.guess && bytes_eq (asked_name q.ask) m) qs q there
    (λ i. is_none (asks i) && (bytes_eq-Decides (asked_name q.ask) m).1 (sym same) i)) ∙ none)

-- what a process does next asks for no name that an asked request is on
abbrev pub IsClear : List PendingRequest → Result Next Refusal → Type 0
IsClear qs (Ok (Next.Fetch m)) = asks_on m qs ≡ false
IsClear qs (Ok (Next.Store m)) = asks_on m qs ≡ false
IsClear qs t = Unit {0}

-- a step of a turn does not touch what asked requests wait for
pub quiet_turn : (scripts : Scripts) (start : State) → IsTidyState start → (es : List (Event Caused)) (qs : List PendingRequest) (p : ℕ) (x : Input) (f : Did) (t : Result Next Refusal)
    → outcome (kernel (table scripts)) (state (table scripts) start es) (own p x) ≡ Ok f → next_turn scripts (state (table scripts) start es) p ≡ t → IsClear qs t
    → (t ≡ Ok Next.Signal → x ≡ Input.None) → asks_for p qs ≡ false → (q : PendingRequest) → Contains qs q → q.guess ≡ None
    → Ready (table scripts) start (record_of (kernel (table scripts)) start es) (undecided (table scripts) start es) q → Quiet (table scripts) start (is_table scripts) f q.process (asked_name q.ask)
quiet_turn scripts start tidy es qs p x f t is next clear due none q there asks ready = (
  λ writes. elim (owns scripts start tidy (record_of (kernel (table scripts)) start es) q.process p x f is writes) [
    | inl same ↦ not_its qs p none q there asks same
    | inr absent ↦ ready.there absent
  ],
  λ writes.
      let m = asked_name q.ask in
      let free : asks_on m qs ≡ false =
      elim (copies scripts (state (table scripts) start es) m p x f (λ h. due (sym next ∙ h)) is writes) as (λ _. asks_on m qs ≡ false) [
        | inl fetch ↦ subst (IsClear qs) (sym next ∙ fetch) clear
        | inr store ↦ subst (IsClear qs) (sym next ∙ store) clear
      ] in
      not_on qs m free q there asks refl,
)

-- ---- an answer of the server
pub drops_not : (server : ServerView) (q : PendingRequest) → (answer_to server (sent q) ≡ Dropped → ⊥) → (y : ℕ) → has y q.rests ≡ true → has y (remembered (sent q) server.refused) ≡ true → ⊥
drops_not server q kept y carries there =
    elim (cases_Bool (is_dropped (sent q) (remembered (sent q) server.refused))) [
      | inl is ↦ kept (ap (λ b. cond b Dropped (judged server.files q.ask)) is)
      | inr no_drop ↦ not_dropped q (remembered (sent q) server.refused) no_drop y carries there
    ]

pub yes_fits : (server : ServerView) (q : PendingRequest) (m : Bytes) (v : ℕ) (b : Bytes) → q.ask ≡ Store m v b → answer_to server (sent q) ≡ Yes → v < LAST_VERSION
yes_fits server q m v b ask says =
    let fits : is_fitting server.files m v ≡ true =
    subst (λ (c : Ask × Answer). Fitting server.files c.0 c.1) (λ i. (ask i, says i)) (answer_suits server (sent q)).1 in
    leb-true (suc v) LAST_VERSION (and_both _ _ fits).1

-- ---- a reply

module _ {E V W F : Type 0} (S : Table E V W F) (start : FinMap S.order V) where
  -- a guess that the server accepted is undecided or committed
  pub good_open : (es : List (Event Caused)) (d : ℕ) (served given : List Served) (pending waiting : List PendingRequest) (memory : List ℕ)
      (i : Invariant S start es d served given pending waiting memory) (x : ℕ) → i.base < x → x ≤ i.a → i.bad x ≡ false → law_lost S start es x ≡ true → ⊥
  good_open es d served given pending waiting memory i x above le good lost =
      let x_le : x ≤ d = (let a_le = queue_le i.made (undecided S start es) d i.base i.a waiting i.queue in omega arith) in
      let parts = and_both _ _ lost in
      elim (i.guesses.stand x above x_le) [
        | inl there ↦
            true≢false (sym ((undecided_is (kernel S) start es i.sound x).1 (
              (λ done. true≢false (sym ((has_commit es x).1 done) ∙ not-true _ parts.1)),
              (λ failed. true≢false (sym (i.guesses.failed x above failed) ∙ good)),
              there,
            )) ∙ not-true _ parts.0)
        | inr rests_on ↦ elim rests_on.2 [
          | inl own ↦ true≢false (sym rests_on.1 ∙ ap i.bad own ∙ good)
          | inr carries ↦ true≢false (sym rests_on.1 ∙ i.guesses.good x above le good rests_on.0 carries)
        ]
      ]

  pub not_void : (es : List (Event Caused)) (d : ℕ) (served given : List Served) (pending waiting : List PendingRequest) (memory : List ℕ)
      → Invariant S start es d served given pending waiting memory → (x : Served) → Contains served x → (x.1 ≡ Dropped → ⊥) → law_void S start es x.0 ≡ true → ⊥
  not_void es d served given pending waiting memory i x there kept void =
      let y = any_from (law_lost S start es) x.0.rests void in
      let carries : has y.0 x.0.rests ≡ true = any_at (λ t. t == y.0) x.0.rests y.0 y.1 (eq-eqb y.0 y.0 refl) in
      let s = i.answers x there in
      let k = s.known y.0 carries in
      good_open es d served given pending waiting memory i y.0 k.0 k.1 (s.kept kept y.0 carries) y.2

-- ---- all of it

-- how many guesses were drawn, and how long the record was, where the world began; and an earlier world
module _ (drawn begun : ℕ) (old : World) where
  -- all that is shown to hold after every event
  pub record All (w : World) : Type 0 where
    pub tidy : IsTidyState w.view.desk.kernel.start
    pub traced : Traced w.trace w.view.desk.kernel
    pub kinds : AreFor (pending w.view.desk)
    pub holds :
        Invariant (table w.view.desk.kernel.scripts) w.view.desk.kernel.start w.trace (last_guess w.view.desk.kernel) (all_served w) w.given (pending w.view.desk) (all_waiting w) w.view.server.refused
    pub facts :
        RequestFacts (table w.view.desk.kernel.scripts) w.view.desk.kernel.start drawn begun old w.trace (last_guess w.view.desk.kernel) w.view.desk.next (all_served w) w.given (all_waiting w)
    pub answers : NoGood w.view.desk.kept
    pub room : PlacesAreKept w.view

  -- a world that these exchanges lead to
  pub record Reached (xs : Exchanges) (v : WorldView) : Type 0 where
    pub trace : List (Event Caused)
    pub given : List Served
    pub answered : map exchange_of (all_served (record { view = v; trace = trace; given = given })) ≡ xs
    pub all : All (record { view = v; trace = trace; given = given })

  pub reached_by : (xs : Exchanges) (v : WorldView) (es : List (Event Caused)) (given : List Served) → map exchange_of (given ++ law_served v.desk.taken v.replies) ≡ xs
      → IsTidyState v.desk.kernel.start → Traced es v.desk.kernel → AreFor (pending v.desk)
      → Invariant (table v.desk.kernel.scripts) v.desk.kernel.start es (last_guess v.desk.kernel) (given ++ law_served v.desk.taken v.replies) given (pending v.desk)
      (unanswered v.desk.taken v.replies ++ v.desk.waiting) v.server.refused
      → RequestFacts (table v.desk.kernel.scripts) v.desk.kernel.start drawn begun old es (last_guess v.desk.kernel) v.desk.next (given ++ law_served v.desk.taken v.replies) given
      (unanswered v.desk.taken v.replies ++ v.desk.waiting) → NoGood v.desk.kept → PlacesAreKept v → Reached xs v
  reached_by xs v es given answered tidy traced kinds holds facts answers room = record {
    trace = es;
    given = given;
    answered = answered;
    all = record {
      tidy = tidy;
      traced = traced;
      kinds = kinds;
      holds = holds;
      facts = facts;
      answers = answers;
      room = room;
    };
  }
