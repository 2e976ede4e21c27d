-- What holds of a world after every list of events, and that it stays so by each of them.
pub mod Kernels
pub use Kernels.*
use Rattle.sk_server.specs.declared.reply.Answer.TheVariants.{Copy}

-- ======== What holds of a world after every list of events; and how the requests that wait change, and the
-- refused guesses that the server remembers.

abbrev pub is_accepted : Answer → Bool
is_accepted Yes = true
is_accepted (No c) = false
is_accepted (Copy c) = true
is_accepted Dropped = false

-- an answer that gives a step an input is not that of a dropped request
pub never_dropped : (a : Answer) (x : Input) → input_of a ≡ Some x → a ≡ Dropped → ⊥
never_dropped a x gives is = (let both : None ≡ Some x = ap input_of (sym is) ∙ gives in cc)

abbrev pub counted : Option ℕ → ℕ → ℕ
counted None a = a
counted (Some g) a = suc a

-- the request of each guess, the guesses that were refused, how many were drawn before, how many were answered
pub record Marks : Type 0 where
  pub made : ℕ → PendingRequest
  pub bad : ℕ → Bool
  pub base : ℕ
  pub a : ℕ
  pub base_le : base ≤ a

-- the step of a request may carry the tag y
abbrev pub Allowed : Caused → ℕ → Type 0
Allowed n y = (q : PendingRequest) → n.cause ≡ For q → (has y q.rests ≡ true) ⊎ (q.guess ≡ Some y)

-- a guess that was refused, or that depends on a refused one
abbrev pub RestsOnRefused : (ℕ → PendingRequest) → (ℕ → Bool) → ℕ → Type 0
RestsOnRefused made bad x = (y : ℕ) × (bad y ≡ true) × ((y ≡ x) ⊎ (has y (made x).rests ≡ true))

-- ---- the requests that wait, where guesses up to a were answered, d were drawn, and us are undecided
pub record Waits (made : ℕ → PendingRequest) (us : List ℕ) (d base a : ℕ) (q : PendingRequest) (later : List PendingRequest) : Type 0 where
  pub own : (g : ℕ) → q.guess ≡ Some g → (g ≡ suc a) × (made g ≡ q)
  pub known : (y : ℕ) → has y q.rests ≡ true → (base < y) × (y ≤ a)
  pub undecided : (y : ℕ) → has y us ≡ true → q.settled ≤ y
  pub low : (y : ℕ) → has y q.rests ≡ true → q.settled ≤ y
  pub after : (r : PendingRequest) → Contains later r → (y : ℕ) → has y r.rests ≡ true → q.settled ≤ y
  pub next : q.settled ≤ suc d

abbrev pub Queue : (ℕ → PendingRequest) → List ℕ → ℕ → ℕ → ℕ → List PendingRequest → Type 0
Queue made us d base a [] = a ≡ d
Queue made us d base a (q ∷ qs) = Waits made us d base a q qs × Queue made us d base (counted q.guess a) qs

-- the server remembers each refused guess that an undecided or a waiting request may depend on
pub record Remembers (bad : ℕ → Bool) (us : List ℕ) (qs : List PendingRequest) (memory : List ℕ) : Type 0 where
  pub undecided : (y : ℕ) → has y us ≡ true → bad y ≡ true → has y memory ≡ true
  pub waiting : (q : PendingRequest) → Contains qs q → (y : ℕ) → has y q.rests ≡ true → bad y ≡ true → has y memory ≡ true

-- a request that was answered
pub record IsServed (made : ℕ → PendingRequest) (bad : ℕ → Bool) (base a last : ℕ) (x : Served) : Type 0 where
  pub known : (y : ℕ) → has y x.0.rests ≡ true → (base < y) × (y ≤ a)
  pub kept : (x.1 ≡ Dropped → ⊥) → (y : ℕ) → has y x.0.rests ≡ true → bad y ≡ false
  pub own : (g : ℕ) → x.0.guess ≡ Some g → (base < g) × (g ≤ a) × (made g ≡ x.0) × (bad g ≡ not (is_accepted x.1))
  pub fits : (m : Bytes) (v : ℕ) (b : Bytes) → x.0.ask ≡ Store m v b → x.1 ≡ Yes → v < last

-- asked requests have processes and names of their own
abbrev pub Apart : List PendingRequest → Type 0
Apart qs = Pairs (λ q r. q.guess ≡ None → r.guess ≡ None → (q.process ≡ r.process → ⊥) × (asked_name q.ask ≡ asked_name r.ask → ⊥)) qs

module _ {E V W F : Type 0} (S : Table E V W F) (start : FinMap S.order V) where
  -- ---- the record
  pub record Entries (made : ℕ → PendingRequest) (base : ℕ) (ns : List Caused) (us : List ℕ) : Type 0 where
    -- a guess's entry is its request's
    pub own : (n : Caused) (g : ℕ) → Contains ns n → n.guess ≡ Some g → base < g → (n.cause ≡ For (made g)) × (n.input ≡ Good)
    -- a request's step is its process's
    pub its : (n : Caused) (q : PendingRequest) → Contains ns n → n.cause ≡ For q → n.process ≡ q.process
    -- the tags of a request's step are among those that the request depends on
    pub tags : (y : ℕ) → has y us ≡ true → Each (λ n b. b ≡ true → Allowed n y) ns (struck (kernel S) start ns y)
    -- what it sets
    pub sets : Each (λ n f. (q : PendingRequest) → n.cause ≡ For q → n.input ≡ Good → Sets S q.ask Good f.written) ns (effects (kernel S) start ns)

  -- ---- guesses
  pub record Guesses (made : ℕ → PendingRequest) (bad : ℕ → Bool) (base a d : ℕ) (es : List (Event Caused)) (ns : List Caused) : Type 0 where
    pub own : (x : ℕ) → base < x → x ≤ d → (made x).guess ≡ Some x
    pub stand : (x : ℕ) → base < x → x ≤ d → HasEntry (kernel S) ns x ⊎ RestsOnRefused made bad x
    pub good : (x : ℕ) → base < x → x ≤ a → bad x ≡ false → (y : ℕ) → has y (made x).rests ≡ true → bad y ≡ false
    pub early : (x : ℕ) → base < x → x ≤ a → (y : ℕ) → has y (made x).rests ≡ true → y ≤ a
    pub answered : (y : ℕ) → bad y ≡ true → y ≤ a
    pub failed : (x : ℕ) → base < x → Contains es (Fail x) → bad x ≡ true

  -- ---- asked requests
  abbrev pub Void : List (Event Caused) → ℕ → PendingRequest → Type 0
  Void es d q = (y : ℕ) × (has y q.rests ≡ true) × (y ≤ d) × (law_lost S start es y ≡ true)

  -- the step that a reply will take is accepted, and touches its process and its copy alone
  abbrev pub ReadyFor : FinMap S.order V → ℕ → Ask → Type 0
  ReadyFor s p (Get m) = (c : ContentView) → Takes S s p (Get m) (Fresh c)
  ReadyFor s p (Check m v) = Unit {0}
  ReadyFor s p (Store m v b) = (v < S.last → Takes S s p (Store m v b) Good) × ((c : ContentView) → Takes S s p (Store m v b) (Stale c))

  abbrev pub tag_at : List Caused → ℕ → Bytes → ℕ → Bool
  tag_at ns p m g = is_in S.order (dirt S.order g [] (effects (kernel S) start ns)) (S.proc p) || is_in S.order (dirt S.order g [] (effects (kernel S) start ns)) (S.copy m)

  pub record Ready (ns : List Caused) (us : List ℕ) (q : PendingRequest) : Type 0 where
    pub step : ReadyFor (run (kernel S) start ns) q.process q.ask
    pub there : get (run (kernel S) start ns) (S.proc q.process) ≡ None → ⊥
    pub covers : (y : ℕ) → has y us ≡ true → tag_at ns q.process (asked_name q.ask) y ≡ true → has y q.rests ≡ true

  -- a new request depends on just the open guesses that its process or its copy depends on, and tells which are decided
  pub record IsMadeAt (es : List (Event Caused)) (d : ℕ) (q : PendingRequest) : Type 0 where
    pub opens : (y : ℕ) → has y q.rests ≡ true → has y (undecided_of (kernel S) start es) ≡ true
    pub covers : (y : ℕ) → has y (undecided_of (kernel S) start es) ≡ true → tag_at (record_of (kernel S) start es) q.process (asked_name q.ask) y ≡ true → has y q.rests ≡ true
    pub low : (y : ℕ) → has y (undecided_of (kernel S) start es) ≡ true → q.settled ≤ y
    pub next : q.settled ≤ suc d

  abbrev pub IsPending : List (Event Caused) → ℕ → List Caused → List ℕ → PendingRequest → Type 0
  IsPending es d ns us q = q.guess ≡ None → Void es d q ⊎ Ready ns us q

  -- a step for the request, with this input
  abbrev pub HasStep : List Caused → PendingRequest → Input → Type 0
  HasStep ns q x = (n : Caused) × Contains ns n × (n.cause ≡ For q) × (n.input ≡ x)

  -- ---- all of it: served requests, those whose reply was given, those without a reply, those that wait, the server's memory
  -- but for what a reply that is given changes
  pub record Core (es : List (Event Caused)) (d : ℕ) (served : List Served) (waiting : List PendingRequest) (memory : List ℕ) : Type 0 where
    pub marks : Marks
    pub open marks use *
    pub sound : IsSound (kernel S) start es
    pub drawn : (g : ℕ) → IsDrawn (kernel S) es g → g ≤ d
    pub above : (y : ℕ) → has y (undecided_of (kernel S) start es) ≡ true → base < y
    pub entries : Entries made base (record_of (kernel S) start es) (undecided_of (kernel S) start es)
    pub guesses : Guesses made bad base a d es (record_of (kernel S) start es)
    pub queue : Queue made (undecided_of (kernel S) start es) d base a waiting
    pub remembers : Remembers bad (undecided_of (kernel S) start es) waiting memory
    pub answers : (x : Served) → Contains served x → IsServed made bad base a S.last x

  pub record Invariant (es : List (Event Caused)) (d : ℕ) (served given : List Served) (pending waiting : List PendingRequest) (memory : List ℕ) : Type 0 where
    pub core : Core es d served waiting memory
    pub open core use *
    pub within : (x : Served) → Contains given x → Contains served x
    -- an asked request that was not dropped has its step
    pub stands : (q : PendingRequest) (a : Answer) (x : Input) → Contains given (q, a) → input_of a ≡ Some x → q.guess ≡ None → HasStep (record_of (kernel S) start es) q x
    pub asked : (q : PendingRequest) → Contains pending q → IsPending es d (record_of (kernel S) start es) (undecided_of (kernel S) start es) q
    pub apart : Apart pending

-- ---- the requests that wait

pub any_of : (p : ℕ → Bool) (xs : List ℕ) (y : ℕ) → has y xs ≡ true → p y ≡ true → list_any p xs ≡ true
any_of p xs y h is = let z = any_from (λ t. t == y) xs h in any_at p xs z.0 z.1 (ap p (eqb-true z.0 y z.2) ∙ is)

pub queue_le : (made : ℕ → PendingRequest) (us : List ℕ) (d base a : ℕ) (qs : List PendingRequest) → Queue made us d base a qs → a ≤ d
queue_le made us d base a [] h = omega arith
queue_le made us d base a (q ∷ qs) h =
    let rest = queue_le made us d base (counted q.guess a) qs h.1 in
    elim q.guess as (λ o. counted o a ≤ d → a ≤ d) [ None ↦ λ le. le | Some g ↦ λ le. omega arith ] rest

pub queue_fewer : (made : ℕ → PendingRequest) (us vs : List ℕ) → ((y : ℕ) → has y vs ≡ true → has y us ≡ true) → (d base a : ℕ) (qs : List PendingRequest)
    → Queue made us d base a qs → Queue made vs d base a qs
queue_fewer made us vs fewer d base a [] h = h
queue_fewer made us vs fewer d base a (q ∷ qs) h = (
  record { own = h.0.own; known = h.0.known; undecided = λ y there. h.0.undecided y (fewer y there); low = h.0.low; after = h.0.after; next = h.0.next },
  queue_fewer made us vs fewer d base (counted q.guess a) qs h.1,
)

-- a new request
pub record Joins (made : ℕ → PendingRequest) (us : List ℕ) (d base : ℕ) (q : PendingRequest) : Type 0 where
  pub own : (g : ℕ) → q.guess ≡ Some g → (g ≡ suc d) × (made g ≡ q)
  pub known : (y : ℕ) → has y q.rests ≡ true → (has y us ≡ true) × (base < y) × (y ≤ d)
  pub undecided : (y : ℕ) → has y us ≡ true → q.settled ≤ y
  pub next : q.settled ≤ suc d

pub queue_push : (made after : ℕ → PendingRequest) (us vs : List ℕ) (d base : ℕ) (q : PendingRequest) → Joins after us d base q
    → ((y : ℕ) → has y vs ≡ true → (has y us ≡ true) ⊎ (y ≡ suc d)) → ((x : ℕ) → x ≤ d → after x ≡ made x)
    → (a : ℕ) (qs : List PendingRequest) → Queue made us d base a qs → Queue after vs (counted q.guess d) base a (qs ++ q ∷ [])
queue_push made after us vs d base q joins fewer same a [] h =
    let up : suc d ≤ suc (counted q.guess d) = elim q.guess as (λ o. suc d ≤ suc (counted o d)) [ None ↦ omega arith | Some g ↦ omega arith ] in
    let next = joins.next in (
      record {
        own = λ g is. let o = joins.own g is in (o.0 ∙ ap suc (sym h), o.1);
        known = λ y there. let k = joins.known y there in (k.1, let le = k.2 in omega arith);
        undecided = λ y there. elim (fewer y there) [ inl was ↦ joins.undecided y was | inr is ↦ omega arith ];
        low = λ y there. joins.undecided y (joins.known y there).0;
        after = λ r none. absurd (no_member r none);
        next = omega arith;
      },
      ap (counted q.guess) h,
    )
queue_push made after us vs d base q joins fewer same a (r ∷ qs) h =
    let le = queue_le made us d base (counted r.guess a) qs h.1 in
    let up : suc d ≤ suc (counted q.guess d) = elim q.guess as (λ o. suc d ≤ suc (counted o d)) [ None ↦ omega arith | Some g ↦ omega arith ] in
    let next = h.0.next in (
      record {
        own = λ g is.
            let o = h.0.own g is in
            let counts : suc a ≤ d = subst (λ o. counted o a ≤ d) is le in
            (o.0, same g (let is_g = o.0 in omega arith) ∙ o.1);
        known = h.0.known;
        undecided = λ y there. elim (fewer y there) [ inl was ↦ h.0.undecided y was | inr is ↦ omega arith ];
        low = h.0.low;
        after = pushed qs q h.0.after (λ y rests. h.0.undecided y (joins.known y rests).0);
        next = omega arith;
      },
      queue_push made after us vs d base q joins fewer same (counted r.guess a) qs h.1,
    )

-- ---- what the server remembers
pub remembers_push : (bad : ℕ → Bool) (us vs : List ℕ) (qs : List PendingRequest) (q : PendingRequest) (memory : List ℕ)
    → ((y : ℕ) → has y vs ≡ true → bad y ≡ true → has y us ≡ true) → ((y : ℕ) → has y q.rests ≡ true → has y us ≡ true)
    → Remembers bad us qs memory → Remembers bad vs (qs ++ q ∷ []) memory
remembers_push bad us vs qs q memory fewer rests old = record {
  undecided = λ y there is. old.undecided y (fewer y there is) is;
  waiting = pushed qs q old.waiting (λ y carries is. old.undecided y (rests y carries) is);
}

-- what is not below the request's number is not forgotten
pub still_remembered : (q : PendingRequest) (memory : List ℕ) (y : ℕ) → q.settled ≤ y → has y memory ≡ true → has y (remembered (sent q) memory) ≡ true
still_remembered q memory y le there =
    has_filter (λ g. nat_le q.settled g) y memory ∙ (λ i. le-leb q.settled y le i && there i)

-- a request that is not dropped depends on no guess that is remembered
pub not_dropped : (q : PendingRequest) (memory : List ℕ) → is_dropped (sent q) memory ≡ false → (y : ℕ) → has y q.rests ≡ true → has y memory ≡ true → ⊥
not_dropped q memory none y rests there = true≢false (sym (any_of (λ g. has g q.rests) memory y there rests) ∙ none)

-- ======== What the events of a sound trace do to its record, its open guesses, tags and values, over any kernel; and the record of a
-- world through steps, commits and failures.

pub has_mark : (m : Option ℕ) (y : ℕ) → m ≡ Some y → has y (marks m) ≡ true
has_mark m y h = subst (λ m. has y (marks m) ≡ true) (sym h) (or_left _ _ (eq-eqb y y refl))

module _ {E V W F N : Type 0} (K : System E V W F N) where
  pub each_effects_more : (X : N → MarkedEffect E V W → Type 0) (s : FinMap K.order V) (ns : List N) (n : N) → Each X ns (effects K s ns)
      → X n (marked_effect K (K.mark n) (outcome K (run K s ns) n)) → Each X (ns ++ n ∷ []) (effects K s (ns ++ n ∷ []))
  each_effects_more X s [] n h last = (last, tt)
  each_effects_more X s (x ∷ ns) n h last = (h.0, each_effects_more X (after K (outcome K s x) s) ns n h.1 last)

  module _ (g : ℕ) where
    pub each_hits_more : (X : N → Bool → Type 0) (dirty : List E) (s : FinMap K.order V) (ns : List N) (n : N) → Each X ns (hits K.order g dirty (effects K s ns))
        → X n (hit K.order g (dirt K.order g dirty (effects K s ns)) (marked_effect K (K.mark n) (outcome K (run K s ns) n)))
        → Each X (ns ++ n ∷ []) (hits K.order g dirty (effects K s (ns ++ n ∷ [])))
    each_hits_more X dirty s [] n h last = (last, tt)
    each_hits_more X dirty s (x ∷ ns) n h last =
        let f = marked_effect K (K.mark x) (outcome K s x) in
        (h.0, each_hits_more X (dirtied (hit K.order g dirty f) f dirty) (after K (outcome K s x) s) ns n h.1 last)

    pub dirt_more : (dirty : List E) (s : FinMap K.order V) (ns : List N) (n : N)
        → let f = marked_effect K (K.mark n) (outcome K (run K s ns) n) in
        dirt K.order g dirty (effects K s (ns ++ n ∷ [])) ≡ dirtied (hit K.order g (dirt K.order g dirty (effects K s ns)) f) f (dirt K.order g dirty (effects K s ns))
    dirt_more dirty s [] n = refl
    dirt_more dirty s (x ∷ ns) n =
        let f = marked_effect K (K.mark x) (outcome K s x) in
        dirt_more (dirtied (hit K.order g dirty f) f dirty) (after K (outcome K s x) s) ns n

module _ {E V W F N : Type 0} (K : System E V W F N) (start : FinMap K.order V) where
  pub legal_of : (es : List (Event N)) → IsSound K start es → IsLegal K start (record_of K start es)
  legal_of es sound = sound.legal es [] (sym (append-nil es))

  -- a guess with an entry was drawn
  pub entry_drawn : (es : List (Event N)) → IsSound K start es → (g : ℕ) → HasEntry K (record_of K start es) g → IsDrawn K es g
  entry_drawn es sound g h =
      (is_drawn K es g).0 (true_from_ne_false _ (λ none.
      true≢false (sym ((has_entry K start (record_of K start es) g).1 h) ∙ marked_is K start start (record_of K start es) g ∙ ((tests K start g es sound).undrawn none).2)))

  pub open_entry : (es : List (Event N)) → IsSound K start es → (g : ℕ) → has g (undecided_of K start es) ≡ true → HasEntry K (record_of K start es) g
  open_entry es sound g h = ((undecided_is K start es sound g).0 h).2

  module _ (total : IsTotalOrder K.order) (exact : IsAntisymmetric K.order) where
    -- ---- a step leaves what it does not write
    not_in : (es : List E) (e : E) → (Contains es e → ⊥) → is_in K.order es e ≡ false
    not_in es e no_e = false_from_ne_true _ (λ is. no_e (in_from total exact es e is))

    pub value_taken : (ns : List N) (n : N) (f : Effect E V W) → outcome K (run K start ns) n ≡ Ok f → (e : E) → (Contains (map (λ w. w.0) f.written) e → ⊥)
        → get (run K start (ns ++ n ∷ [])) e ≡ get (run K start ns) e
    value_taken ns n f is e no_e =
        ap (λ s. get s e) (run_append K start ns (n ∷ []) ∙ ap (λ o. after K o (run K start ns)) is)
        ∙ get-put_all_other total f.written (run K start ns) e (not_in _ e no_e)

    pub dirt_taken : (ns : List N) (n : N) (f : Effect E V W) → outcome K (run K start ns) n ≡ Ok f → (e : E) → (Contains (map (λ w. w.0) f.written) e → ⊥) → (g : ℕ)
        → is_in K.order (dirt K.order g [] (effects K start (ns ++ n ∷ []))) e ≡ is_in K.order (dirt K.order g [] (effects K start ns)) e
    dirt_taken ns n f is e no_e g =
        ap (λ d. is_in K.order d e) (dirt_more K g [] start ns n)
        ∙ ap (λ o. is_in K.order (dirtied (hit K.order g (dirt K.order g [] (effects K start ns)) (marked_effect K (K.mark n) o)) (marked_effect K (K.mark n) o) (dirt K.order g [] (effects K start ns))) e) is
        ∙ dirtied_other K.order (hit K.order g (dirt K.order g [] (effects K start ns)) (marked_effect K (K.mark n) (Ok f))) (marked_effect K (K.mark n) (Ok f)) _ e (not_in _ e no_e)

    -- ---- a failure
    module _ (ns : List N) (legal : IsLegal K start ns) (h : ℕ) where
      pub each_effects_left : (X : N → MarkedEffect E V W → Type 0) → Each X ns (effects K start ns) → Each X (strike K start ns h) (effects K start (strike K start ns h))
      each_effects_left X all =
          subst (Each X (strike K start ns h)) (sym (struck_runs K total exact start ns h legal).steps) (each_keep X (struck K start ns h) ns (effects K start ns) all)

      pub each_hits_left : (g : ℕ) (X : N → Bool → Type 0) → Each X ns (struck K start ns g) → Each X (strike K start ns h) (struck K start (strike K start ns h) g)
      each_hits_left g X all =
          subst (Each X (strike K start ns h)) (sym (later K total exact start ns h g legal)) (each_keep X (struck K start ns h) ns (struck K start ns g) all)

      pub dirt_left : (g : ℕ) (e : E) → is_in K.order (dirt K.order g [] (effects K start (strike K start ns h))) e ≡ true → is_in K.order (dirt K.order g [] (effects K start ns)) e ≡ true
      dirt_left g e there =
          let d = (dirt_is total g exact (effects K start (strike K start ns h)) e).0 there in
          (dirt_is total g exact (effects K start ns) e).1 (
            place (struck K start ns h) d.0,
            d.1,
            sym (slice_get-keep (struck K start ns h) (effects K start ns) d.0) ∙ ap (λ ts. slice_get ts d.0) (sym (struck_runs K total exact start ns h legal).steps) ∙ d.2,
            (later_dep K total exact start ns h g d.0 legal).0 d.3,
            d.4,
          )

      pub value_left : (e : E) → is_in K.order (dirt K.order h [] (effects K start ns)) e ≡ false → get (run K start (strike K start ns h)) e ≡ get (run K start ns) e
      value_left e clean =
          (struck_runs K total exact start ns h legal).others e
          (λ j f at dep there. true≢false (sym ((dirt_is total h exact (effects K start ns) e).1 (j, f, at, dep, there)) ∙ clean))

module _ {E V W F : Type 0} (S : Table E V W F) (start : FinMap S.order V) (table : IsTable S) where
  abbrev pub Quiet : Effect E V W → ℕ → Bytes → Type 0
  Quiet f p m = (Contains (map (λ w. w.0) f.written) (S.proc p) → ⊥) × (Contains (map (λ w. w.0) f.written) (S.copy m) → ⊥)

  -- ---- a step
  pub entries_taken : (made after : ℕ → PendingRequest) (base : ℕ) (ns : List Caused) (us vs : List ℕ) (n : Caused) (f : Effect E V W)
      → Entries S start made base ns us → outcome (kernel S) (run (kernel S) start ns) n ≡ Ok f
      → ((x : Caused) (g : ℕ) → Contains ns x → x.guess ≡ Some g → base < g → after g ≡ made g)
      → ((y : ℕ) → has y vs ≡ true → (has y us ≡ true) ⊎ (n.guess ≡ Some y))
      → ((y : ℕ) → n.guess ≡ Some y → still_marked (effects (kernel S) start ns) y ≡ false)
      → ((g : ℕ) → n.guess ≡ Some g → base < g → (n.cause ≡ For (after g)) × (n.input ≡ Good))
      → ((y : ℕ) → has y vs ≡ true → hit S.order y (dirt S.order y [] (effects (kernel S) start ns)) (marked_effect (kernel S) n.guess (Ok f)) ≡ true → Allowed n y)
      → ((q : PendingRequest) → n.cause ≡ For q → n.process ≡ q.process)
      → ((q : PendingRequest) → n.cause ≡ For q → n.input ≡ Good → Sets S q.ask Good f.written)
      → Entries S start after base (ns ++ n ∷ []) vs
  entries_taken made after base ns us vs n f old is same fewer fresh own tags its sets =
      let K = kernel S in
      record {
        own = λ x g there mark above.
            elim (Contains-push_cases ns n x there) [
              | inl before ↦ let o = old.own x g before mark above in (o.0 ∙ ap For (sym (same x g before mark above)), o.1)
              | inr is_n ↦ subst (λ (x : Caused). (x.cause ≡ For (after g)) × (x.input ≡ Good)) is_n (own g (ap (λ (x : Caused). x.guess) is_n ∙ mark) above)
            ];
        its = λ x q there cause. elim (Contains-push_cases ns n x there) [
          | inl before ↦ old.its x q before cause
          | inr is_n ↦ subst (λ (x : Caused). x.cause ≡ For q → x.process ≡ q.process) is_n (its q) cause
        ];
        tags = λ y there.
            each_hits_more K y (λ n b. b ≡ true → Allowed n y) [] start ns n
            (elim (fewer y there) [
              | inl before ↦ old.tags y before
              | inr new ↦ each_none (λ n. Allowed n y) ns (struck K start ns y) (unmarked_hits S.order y (effects K start ns) (fresh y new))
            ])
            (λ h. tags y there (ap (λ o. hit S.order y (dirt S.order y [] (effects K start ns)) (marked_effect K n.guess o)) (sym is) ∙ h));
        sets = each_effects_more K _ start ns n old.sets (subst (λ o. (q : PendingRequest) → n.cause ≡ For q → n.input ≡ Good → Sets S q.ask Good (marked_effect K n.guess o).written) (sym is) sets);
      }

  -- the tags of a step that touches a process and a copy alone
  pub tags_of_step : (ns : List Caused) (us : List ℕ) (p : ℕ) (m : Bytes) (rests : List ℕ) (own : Option ℕ) (f : Effect E V W)
      → ((e : E) → Contains (map (λ r. r.0) f.read) e → IsEither S p m e) → ((e : E) → Contains (map (λ w. w.0) f.written) e → IsEither S p m e)
      → ((y : ℕ) → has y us ≡ true → tag_at S start ns p m y ≡ true → has y rests ≡ true)
      → (y : ℕ) → (has y us ≡ true) ⊎ (own ≡ Some y)
      → hit S.order y (dirt S.order y [] (effects (kernel S) start ns)) (marked_effect (kernel S) own (Ok f)) ≡ true → (has y rests ≡ true) ⊎ (own ≡ Some y)
  tags_of_step ns us p m rests own f reads writes covers y (inr its) h = inr its
  tags_of_step ns us p m rests own f reads writes covers y (inl there) h =
      let dirty = dirt S.order y [] (effects (kernel S) start ns) in
      elim (or_cases _ _ h) [
        | inl its ↦ inr (mark_is own y its)
        | inr touched ↦
            let e = any_from (is_in S.order dirty) (touches (marked_effect (kernel S) own (Ok f))) touched in
            let either : IsEither S p m e.0 = elim (Contains-append_cases (map (λ r. r.0) f.read) (map (λ w. w.0) f.written) e.0 e.1) [ inl r ↦ reads e.0 r | inr w ↦ writes e.0 w ] in
            inl (covers y there (elim either [
              | inl p_is ↦ or_left _ _ (ap (is_in S.order dirty) (sym p_is) ∙ e.2)
              | inr m_is ↦ or_right _ _ (ap (is_in S.order dirty) (sym m_is) ∙ e.2)
            ]))
      ]

  -- ---- a failure
  pub entries_failed : (made : ℕ → PendingRequest) (base : ℕ) (ns : List Caused) (us vs : List ℕ) → IsLegal (kernel S) start ns → (h : ℕ)
      → ((y : ℕ) → has y vs ≡ true → has y us ≡ true) → Entries S start made base ns us → Entries S start made base (strike (kernel S) start ns h) vs
  entries_failed made base ns us vs legal h fewer old =
      let K = kernel S in
      record {
        own = λ n g there mark above. old.own n g (kept_was (struck K start ns h) ns n there) mark above;
        its = λ n q there cause. old.its n q (kept_was (struck K start ns h) ns n there) cause;
        tags = λ y there. each_hits_left K start table.total table.exact ns legal h y (λ n b. b ≡ true → Allowed n y) (old.tags y (fewer y there));
        sets = each_effects_left K start table.total table.exact ns legal h _ old.sets;
      }

  -- ---- asked requests
  takes_same : (s t : FinMap S.order V) (p : ℕ) (ask : Ask) (x : Input) → get s (S.proc p) ≡ get t (S.proc p) → get s (S.copy (asked_name ask)) ≡ get t (S.copy (asked_name ask))
      → Takes S s p ask x → Takes S t p ask x
  takes_same s t p ask x process copy old =
      let same : (e : E) → IsEither S p (asked_name ask) e → get s e ≡ get t e =
      λ e is. elim is [ inl p_is ↦ ap (get s) p_is ∙ process ∙ ap (get t) (sym p_is) | inr m_is ↦ ap (get s) m_is ∙ copy ∙ ap (get t) (sym m_is) ] in
      record {
        effect = old.effect;
        accepted = footprint (kernel S) table.total table.exact s t (own p x) old.effect old.accepted (λ e there. same e (old.reads e there)) (λ e there. same e (old.writes e there));
        reads = old.reads;
        writes = old.writes;
        sets = old.sets;
      }

  ready_same : (s t : FinMap S.order V) (p : ℕ) (ask : Ask) → get s (S.proc p) ≡ get t (S.proc p) → get s (S.copy (asked_name ask)) ≡ get t (S.copy (asked_name ask))
      → ReadyFor S start s p ask → ReadyFor S start t p ask
  ready_same s t p (Get m) process copy old = λ c. takes_same s t p (Get m) (Fresh c) process copy (old c)
  ready_same s t p (Check m v) process copy old = tt
  ready_same s t p (Store m v b) process copy old = (
    (λ lt. takes_same s t p (Store m v b) Good process copy (old.0 lt)),
    λ c. takes_same s t p (Store m v b) (Stale c) process copy (old.1 c),
  )

  -- with the same values, and no more tags
  pub ready_kept : (ns ms : List Caused) (us vs : List ℕ) (q : PendingRequest)
      → get (run (kernel S) start ms) (S.proc q.process) ≡ get (run (kernel S) start ns) (S.proc q.process)
      → get (run (kernel S) start ms) (S.copy (asked_name q.ask)) ≡ get (run (kernel S) start ns) (S.copy (asked_name q.ask))
      → ((y : ℕ) → has y vs ≡ true → tag_at S start ms q.process (asked_name q.ask) y ≡ true → (has y us ≡ true) × (tag_at S start ns q.process (asked_name q.ask) y ≡ true))
      → Ready S start ns us q → Ready S start ms vs q
  ready_kept ns ms us vs q process copy fewer old = record {
    step = ready_same (run (kernel S) start ns) (run (kernel S) start ms) q.process q.ask (sym process) (sym copy) old.step;
    there = λ none. old.there (sym process ∙ none);
    covers = λ y there tag. let f = fewer y there tag in old.covers y f.0 f.1;
  }

  pub ready_taken : (ns : List Caused) (us vs : List ℕ) (n : Caused) (f : Effect E V W) (q : PendingRequest) → outcome (kernel S) (run (kernel S) start ns) n ≡ Ok f
      → Quiet f q.process (asked_name q.ask)
      → ((y : ℕ) → has y vs ≡ true → (has y us ≡ true) ⊎ (dirt S.order y [] (effects (kernel S) start ns) ≡ []))
      → Ready S start ns us q → Ready S start (ns ++ n ∷ []) vs q
  ready_taken ns us vs n f q is quiet fewer old =
      let K = kernel S in
      let tag_same : (y : ℕ) → tag_at S start (ns ++ n ∷ []) q.process (asked_name q.ask) y ≡ tag_at S start ns q.process (asked_name q.ask) y =
      λ y. λ i. dirt_taken K start table.total table.exact ns n f is (S.proc q.process) quiet.0 y i || dirt_taken K start table.total table.exact ns n f is (S.copy (asked_name q.ask)) quiet.1 y i in
      ready_kept ns (ns ++ n ∷ []) us vs q
      (value_taken K start table.total table.exact ns n f is (S.proc q.process) quiet.0)
      (value_taken K start table.total table.exact ns n f is (S.copy (asked_name q.ask)) quiet.1)
      (λ y there tag.
      let before = sym (tag_same y) ∙ tag in
      elim (fewer y there) [
        | inl was ↦ (was, before)
        | inr clean ↦ absurd (true≢false (sym before ∙ ap (λ d. is_in S.order d (S.proc q.process) || is_in S.order d (S.copy (asked_name q.ask))) clean))
      ])
      old

  pub ready_failed : (ns : List Caused) (us vs : List ℕ) → IsLegal (kernel S) start ns → (h : ℕ) (q : PendingRequest)
      → ((y : ℕ) → has y vs ≡ true → has y us ≡ true) → tag_at S start ns q.process (asked_name q.ask) h ≡ false → Ready S start ns us q → Ready S start (strike (kernel S) start ns h) vs q
  ready_failed ns us vs legal h q fewer clean old =
      let K = kernel S in
      let parts = or_parts _ _ clean in
      ready_kept ns (strike K start ns h) us vs q
      (value_left K start table.total table.exact ns legal h (S.proc q.process) parts.0)
      (value_left K start table.total table.exact ns legal h (S.copy (asked_name q.ask)) parts.1)
      (λ y there tag. (
        fewer y there,
        elim (or_cases _ _ tag) [
          | inl p_is ↦ or_left _ _ (dirt_left K start table.total table.exact ns legal h y (S.proc q.process) p_is)
          | inr m_is ↦ or_right _ _ (dirt_left K start table.total table.exact ns legal h y (S.copy (asked_name q.ask)) m_is)
        ],
      ))
      old

  -- a lost guess stays lost
  pub lost_more : (es : List (Event Caused)) (e : Event Caused) (y : ℕ)
      → (has y (undecided_of (kernel S) start (es ++ e ∷ [])) ≡ true → has y (undecided_of (kernel S) start es) ≡ true) → is_commit y e ≡ false
      → law_lost S start es y ≡ true → law_lost S start (es ++ e ∷ []) y ≡ true
  lost_more es e y fewer other lost =
      let parts = and_both _ _ lost in
      let shut : has y (undecided_of (kernel S) start (es ++ e ∷ [])) ≡ false = false_from_ne_true _ (λ h. true≢false (sym (fewer h) ∙ not-true _ parts.0)) in
      let none : list_any (is_commit y) (es ++ e ∷ []) ≡ false = list_any-append (is_commit y) es (e ∷ []) ∙ or_from _ _ (not-true _ parts.1) (or_from _ _ other refl) in
      λ i. not (shut i) && not (none i)

-- ======== What holds of a world stays so: by each event of its kernel, by a question, by an answer of the server, by a reply that is given.

pub no_guess : (o : Option ℕ) (g : ℕ) → o ≡ None → o ≡ Some g → ⊥
no_guess o g none some = let same : None ≡ Some g = sym none ∙ some in cc

pub same_request : (q r : PendingRequest) → For q ≡ For r → q ≡ r
same_request q r is = cc

module _ {E V W F : Type 0} (S : Table E V W F) (start : FinMap S.order V) (table : IsTable S) where
  entry_more : (ns : List Caused) (n : Caused) (x : ℕ) → HasEntry (kernel S) ns x → HasEntry (kernel S) (ns ++ n ∷ []) x
  entry_more ns n x h = (h.0, Contains-append_left ns (n ∷ []) h.0 h.1, h.2)

  step_more : (ns : List Caused) (n : Caused) (q : PendingRequest) (x : Input) → HasStep S start ns q x → HasStep S start (ns ++ n ∷ []) q x
  step_more ns n q x h = (h.0, Contains-append_left ns (n ∷ []) h.0 h.1, h.2, h.3)

  -- a guess without an entry in the record has dirtied nothing
  new_clean : (es : List (Event Caused)) (n : Caused) → IsSound (kernel S) start (es ++ Taken n ∷ []) → (y : ℕ) → n.guess ≡ Some y
      → dirt S.order y [] (effects (kernel S) start (record_of (kernel S) start es)) ≡ []
  new_clean es n sound y is =
      let K = kernel S in
      ap (λ ns. dirt S.order y [] (effects K start ns)) (sym (entries_are K start es))
      ∙ own_dirt K table.total table.exact start (all_recorded K start no_record es) n.guess (fresh_from K start es n sound) y (has_mark n.guess y is)

  module _ (es : List (Event Caused)) (d : ℕ) (served given : List Served) (pending waiting : List PendingRequest) (memory : List ℕ) where
    abbrev ns : List Caused
    ns = record_of (kernel S) start es

    abbrev us : List ℕ
    us = undecided_of (kernel S) start es

    abbrev ns_after : Event Caused → List Caused
    ns_after e = record_of (kernel S) start (es ++ e ∷ [])

    abbrev us_after : Event Caused → List ℕ
    us_after e = undecided_of (kernel S) start (es ++ e ∷ [])

    -- ---- an event that draws no guess
    inv_event : (e : Event Caused) (i : Invariant S start es d served given pending waiting memory) → IsSound (kernel S) start (es ++ e ∷ [])
        → ((n : Caused) → e ≡ Taken n → n.guess ≡ None) → ((x : ℕ) → e ≡ Fail x → i.bad x ≡ true) → ((y : ℕ) → has y (us_after e) ≡ true → has y us ≡ true)
        → Entries S start i.made i.base (ns_after e) (us_after e)
        → ((x : ℕ) → i.base < x → x ≤ d → HasEntry (kernel S) ns x → HasEntry (kernel S) (ns_after e) x ⊎ RestsOnRefused i.made i.bad x)
        → ((q : PendingRequest) (a : Answer) (x : Input) → Contains given (q, a) → input_of a ≡ Some x → q.guess ≡ None → HasStep S start ns q x → HasStep S start (ns_after e) q x)
        → ((y : ℕ) → law_lost S start es y ≡ true → is_commit y e ≡ false)
        → ((q : PendingRequest) → Contains pending q → q.guess ≡ None → Ready S start ns us q → Void S start (es ++ e ∷ []) d q ⊎ Ready S start (ns_after e) (us_after e) q)
        → Invariant S start (es ++ e ∷ []) d served given pending waiting memory
    inv_event e i sound none fails fewer entries stand stands lost ready = record {
      core = record {
        marks = i.marks;
        sound = sound;
        drawn = λ g dr. elim (drawn_more (kernel S) start es e g dr) [
          | inl before ↦ i.drawn g before
          | inr new ↦ absurd (no_guess new.0.guess g (none new.0 new.1) new.2)
        ];
        above = λ y there. i.above y (fewer y there);
        entries = entries;
        guesses = record {
          own = i.guesses.own;
          stand = λ x above le. elim (i.guesses.stand x above le) [ inl there ↦ stand x above le there | inr rests_on ↦ inr rests_on ];
          good = i.guesses.good;
          early = i.guesses.early;
          answered = i.guesses.answered;
          failed = λ x above there. elim (Contains-push_cases es e (Fail x) there) [ inl before ↦ i.guesses.failed x above before | inr is ↦ fails x is ];
        };
        queue = queue_fewer i.made us (us_after e) fewer d i.base i.a waiting i.queue;
        remembers = record { undecided = λ y there. i.remembers.undecided y (fewer y there); waiting = i.remembers.waiting };
        answers = i.answers;
      };
      within = i.within;
      stands = λ q a x there gives asked. stands q a x there gives asked (i.stands q a x there gives asked);
      asked = λ q there asked. elim (i.asked q there asked) [
        | inl void ↦ inl (void.0, void.1, void.2, lost_more S start table es e void.0 (fewer void.0) (lost void.0 void.3) void.3)
        | inr is ↦ ready q there asked is
      ];
      apart = i.apart;
    }

    -- ---- a step without a guess
    pub inv_plain : (n : Caused) (f : Effect E V W) → Invariant S start es d served given pending waiting memory
        → outcome (kernel S) (run (kernel S) start ns) n ≡ Ok f → n.guess ≡ None
        → ((y : ℕ) → has y us ≡ true → hit S.order y (dirt S.order y [] (effects (kernel S) start ns)) (marked_effect (kernel S) n.guess (Ok f)) ≡ true → Allowed n y)
        → ((q : PendingRequest) → n.cause ≡ For q → n.process ≡ q.process)
        → ((q : PendingRequest) → n.cause ≡ For q → n.input ≡ Good → Sets S q.ask Good f.written)
        → ((q : PendingRequest) → Contains pending q → q.guess ≡ None → Ready S start ns us q → Quiet S start table f q.process (asked_name q.ask))
        → Invariant S start (es ++ Taken n ∷ []) d served given pending waiting memory
    inv_plain n f i is none tags its sets quiet =
        let K = kernel S in
        let e : Event Caused = Taken n in
        let vs = us_after e in
        let same : ns_after e ≡ ns ++ n ∷ [] = record_more K start es e in
        let fewer : (y : ℕ) → has y vs ≡ true → has y us ≡ true = λ y there. elim (open_taken K start es n y there) [ inl was ↦ was | inr new ↦ absurd (no_guess n.guess y none new) ] in
        inv_event e i (sound_taken K start es n i.sound (λ g h mark drawn. absurd (no_guess n.guess g none mark)) (ap is_ok is))
        (λ m is. (let one : n ≡ m = cc in ap (λ (n : Caused). n.guess) (sym one) ∙ none)) (λ x is. cc) fewer
        (subst (λ ns. Entries S start i.made i.base ns vs) (sym same)
        (entries_taken S start table i.made i.made i.base ns us vs n f i.entries is (λ x g there mark above. refl) (λ y there. inl (fewer y there))
        (λ y mark. absurd (no_guess n.guess y none mark)) (λ g mark above. absurd (no_guess n.guess g none mark)) (λ y there. tags y (fewer y there)) its sets))
        (λ x _ _ there. inl (subst (λ ns. HasEntry K ns x) (sym same) (entry_more ns n x there)))
        (λ q _ x _ _ _ step. subst (λ ns. HasStep S start ns q x) (sym same) (step_more ns n q x step))
        (λ y _. refl)
        (λ q there asked ready. inr (subst (λ ns. Ready S start ns vs q) (sym same) (ready_taken S start table ns us vs n f q is (quiet q there asked ready) (λ y there. inl (fewer y there)) ready)))

    -- ---- a commit
    pub inv_commit : (h : ℕ) → Invariant S start es d served given pending waiting memory → has h us ≡ true → Invariant S start (es ++ Commit h ∷ []) d served given pending waiting memory
    inv_commit h i is_open =
        let K = kernel S in
        let e : Event Caused = Commit h in
        let vs = us_after e in
        let same : ns_after e ≡ ns = record_more K start es e in
        let fewer : (y : ℕ) → has y vs ≡ true → has y us ≡ true = open_commit K start es h in
        inv_event e i (sound_commit K start es h i.sound ((undecided_is K start es i.sound h).0 is_open)) (λ m is. cc) (λ x is. cc) fewer
        (subst (λ ns. Entries S start i.made i.base ns vs) (sym same) (record {
          own = i.entries.own;
          its = i.entries.its;
          tags = λ y there. i.entries.tags y (fewer y there);
          sets = i.entries.sets;
        }))
        (λ x _ _ there. inl (subst (λ ns. HasEntry K ns x) (sym same) there))
        (λ q _ x _ _ _ step. subst (λ ns. HasStep S start ns q x) (sym same) step)
        (λ y lost. false_from_ne_true _ (λ same_h. true≢false (sym is_open ∙ ap (λ y. has y us) (eqb-true h y same_h) ∙ not-true _ (and_both _ _ lost).0)))
        (λ q _ _ ready. inr (subst (λ ns. Ready S start ns vs q) (sym same) (ready_kept S start table ns ns us vs q refl refl (λ y there tag. (fewer y there, tag)) ready)))

    -- ---- a failure, of a guess that the server refused
    pub inv_fail : (h : ℕ) (i : Invariant S start es d served given pending waiting memory) → i.bad h ≡ true → has h us ≡ true → Invariant S start (es ++ Fail h ∷ []) d served given pending waiting memory
    inv_fail h i is_bad is_open =
        let K = kernel S in
        let e : Event Caused = Fail h in
        let vs = us_after e in
        let legal = legal_of K start es i.sound in
        let same : ns_after e ≡ strike K start ns h = record_more K start es e in
        let fewer : (y : ℕ) → has y vs ≡ true → has y us ≡ true = open_fail K start es h in
        let undecided = (undecided_is K start es i.sound h).0 is_open in
        let sound = sound_fail K start table.total table.exact es h i.sound undecided in
        let h_le : h ≤ d = i.drawn h (entry_drawn K start es i.sound h (open_entry K start es i.sound h is_open)) in
        let lost : law_lost S start (es ++ e ∷ []) h ≡ true =
        (let shut = decided_shut K start es (Fail h) h sound (inr refl) in
        let none : list_any (is_commit h) (es ++ e ∷ []) ≡ false =
        list_any-append (is_commit h) es (e ∷ []) ∙ or_from _ _ (false_from_ne_true _ (λ is. undecided.0 ((has_commit es h).0 is))) refl in
        λ i. not (shut i) && not (none i)) in
        inv_event e i sound (λ m is. cc) (λ x is. (let same_h : h ≡ x = cc in ap i.bad (sym same_h) ∙ is_bad)) fewer
        (subst (λ ns. Entries S start i.made i.base ns vs) (sym same) (entries_failed S start table i.made i.base ns us vs legal h fewer i.entries))
        (λ x above le there. elim (survives (λ n. Allowed n h) (struck K start ns h) ns (i.entries.tags h is_open) there.0 there.1) [
          | inl kept ↦ inl (subst (λ ns. HasEntry K ns x) (sym same) (there.0, kept, there.2))
          | inr allowed ↦ inr (
            h,
            is_bad,
            elim (allowed (i.made x) (i.entries.own there.0 x there.1 there.2 above).0) [
              | inl rests ↦ inr rests
              | inr mine ↦ inl (let both : Some x ≡ Some h = sym (i.guesses.own x above le) ∙ mine in cc)
            ],
          )
        ])
        (λ q a x there gives asked s. subst (λ ns. HasStep S start ns q x) (sym same)
        (elim (survives (λ n. Allowed n h) (struck K start ns h) ns (i.entries.tags h is_open) s.0 s.1) [
          | inl kept ↦ (s.0, kept, s.2, s.3)
          | inr allowed ↦ absurd (elim (allowed q s.2) [
            | inl rests ↦ true≢false (sym is_bad ∙ (i.answers (q, a) (i.within (q, a) there)).kept (never_dropped a x gives) h rests)
            | inr mine ↦ no_guess q.guess h asked mine
          ])
        ]))
        (λ y _. refl)
        (λ q there asked ready. elim (cases_Bool (tag_at S start ns q.process (asked_name q.ask) h)) [
          | inl tagged ↦ inl (h, ready.covers h is_open tagged, h_le, lost)
          | inr clean ↦ inr (subst (λ ns. Ready S start ns vs q) (sym same) (ready_failed S start table ns us vs legal h q fewer clean ready))
        ])

    open_le : Invariant S start es d served given pending waiting memory → (y : ℕ) → has y us ≡ true → y ≤ d
    open_le i y there = i.drawn y (entry_drawn (kernel S) start es i.sound y (open_entry (kernel S) start es i.sound y there))

    -- ---- a question
    pub inv_ask : (q : PendingRequest) → Invariant S start es d served given pending waiting memory
        → q.guess ≡ None → IsMadeAt S start es d q
        → ReadyFor S start (run (kernel S) start ns) q.process q.ask → (get (run (kernel S) start ns) (S.proc q.process) ≡ None → ⊥)
        → ((r : PendingRequest) → Contains pending r → r.guess ≡ None → (r.process ≡ q.process → ⊥) × (asked_name r.ask ≡ asked_name q.ask → ⊥))
        → Invariant S start es d served given (pending ++ q ∷ []) (waiting ++ q ∷ []) memory
    inv_ask q i asks made ready there blocked =
        let K = kernel S in
        record {
          core = record {
            marks = i.marks;
            sound = i.sound;
            drawn = i.drawn;
            above = i.above;
            entries = i.entries;
            guesses = i.guesses;
            queue = subst (λ d2. Queue i.made us d2 i.base i.a (waiting ++ q ∷ [])) (ap (λ o. counted o d) asks)
                (queue_push i.made i.made us us d i.base q (record {
                  own = λ g mark. absurd (no_guess q.guess g asks mark);
                  known = λ y h. let here = made.opens y h in (here, i.above y here, open_le i y here);
                  undecided = made.low;
                  next = made.next;
                }) (λ y h. inl h) (λ x le. refl) i.a waiting i.queue);
            remembers = remembers_push i.bad us us waiting q memory (λ y h is. h) made.opens i.remembers;
            answers = i.answers;
          };
          within = i.within;
          stands = i.stands;
          asked = pushed pending q i.asked (λ _. inr (record { step = ready; there = there; covers = made.covers }));
          apart = pairs_push _ pending q i.apart (λ r h asked _. blocked r h asked);
        }

    -- ---- a guess
    pub inv_guess : (q : PendingRequest) (n : Caused) → Invariant S start es d served given pending waiting memory
        → (t : Takes S (run (kernel S) start ns) q.process q.ask Good)
        → q.guess ≡ Some (suc d) → IsMadeAt S start es d q
        → n ≡ record { process = q.process; input = Good; guess = q.guess; cause = For q }
        → ((r : PendingRequest) → Contains pending r → r.guess ≡ None → Ready S start (record_of (kernel S) start es) (undecided_of (kernel S) start es) r → Quiet S start table t.effect r.process (asked_name r.ask))
        → Invariant S start (es ++ Taken n ∷ []) (suc d) served given (pending ++ q ∷ []) (waiting ++ q ∷ []) memory
    inv_guess q n i t guess made entry quiet =
        let K = kernel S in
        let vs = undecided_of K start (es ++ Taken n ∷ []) in
        let f = t.effect in
        let same : record_of K start (es ++ Taken n ∷ []) ≡ ns ++ n ∷ [] = record_more K start es (Taken n) in
        let a_le : i.a ≤ d = queue_le i.made us d i.base i.a waiting i.queue in
        let base_le = i.base_le in
        let mark : n.guess ≡ Some (suc d) = ap (λ (n : Caused). n.guess) entry ∙ guess in
        let is_new : (y : ℕ) → n.guess ≡ Some y → y ≡ suc d = λ y is. (let both : Some (suc d) ≡ Some y = sym mark ∙ is in cc) in
        let low : (y : ℕ) → has y us ≡ true → y ≤ d = open_le i in
        let after : ℕ → PendingRequest = at_number (suc d) q i.made in
        let kept : (x : ℕ) → x ≤ d → after x ≡ i.made x = λ x le. at_other (suc d) q i.made x (λ is. omega arith) in
        let accepted : outcome K (run K start ns) n ≡ Ok f = ap (outcome K (run K start ns)) entry ∙ t.accepted in
        let fewer : (y : ℕ) → has y vs ≡ true → (has y us ≡ true) ⊎ (y ≡ suc d) = λ y h. elim (open_taken K start es n y h) [ inl was ↦ inl was | inr new ↦ inr (is_new y new) ] in
        let entry_le : (x : ℕ) → HasEntry K ns x → x ≤ d = λ x h. i.drawn x (entry_drawn K start es i.sound x h) in
        let cause : n.cause ≡ For q = ap (λ (n : Caused). n.cause) entry in
        let sound : IsSound K start (es ++ Taken n ∷ []) =
        sound_taken K start es n i.sound (λ g h is drawn. let le = i.drawn h drawn in let new = is_new g is in omega arith) (ap is_ok accepted) in
        let g_own = i.guesses.own in
        record {
          core = record {
            marks = record i.marks { made = after };
            sound = sound;
            drawn = λ g dr. elim (drawn_more K start es (Taken n) g dr) [
              | inl before ↦ let le = i.drawn g before in omega arith
              | inr new ↦ let same_n : n ≡ new.0 = cc in let is = is_new g (ap (λ (n : Caused). n.guess) same_n ∙ new.2) in omega arith
            ];
            above = λ y h. elim (fewer y h) [ inl was ↦ i.above y was | inr is ↦ omega arith ];
            entries = subst (λ ns. Entries S start after i.base ns vs) (sym same)
                (entries_taken S start table i.made after i.base ns us vs n f i.entries accepted
                (λ x g there is above. kept g (entry_le g (x, there, is)))
                (λ y h. elim (fewer y h) [ inl was ↦ inl was | inr is ↦ inr (mark ∙ ap Some (sym is)) ])
                (λ y is. false_from_ne_true _ (λ marked. let le = entry_le y ((has_entry K start ns y).0 marked) in let new = is_new y is in omega arith))
                (λ g is above. (cause ∙ ap For (sym (ap after (is_new g is) ∙ at_same (suc d) q i.made)), ap (λ (n : Caused). n.input) entry))
                (λ y h hits r is.
                let one : q ≡ r = same_request q r (sym cause ∙ is) in
                subst (λ (r : PendingRequest). (has y r.rests ≡ true) ⊎ (r.guess ≡ Some y)) one
                (elim (tags_of_step S start table ns us q.process (asked_name q.ask) q.rests n.guess f t.reads t.writes
                made.covers y
                (elim (fewer y h) [ inl was ↦ inl was | inr is ↦ inr (mark ∙ ap Some (sym is)) ]) hits) [
                  | inl carries ↦ inl carries
                  | inr its ↦ inr (guess ∙ sym mark ∙ its)
                ]))
                (λ r is. ap (λ (n : Caused). n.process) entry ∙ ap (λ (r : PendingRequest). r.process) (same_request q r (sym cause ∙ is)))
                (λ r is good. subst (λ (r : PendingRequest). Sets S r.ask Good f.written) (same_request q r (sym cause ∙ is)) t.sets));
            guesses = subst (Guesses S start after i.bad i.base i.a (suc d) (es ++ Taken n ∷ [])) (sym same) (record {
              own = λ x above le. elim (cases_eq x (suc d)) [
                | inl is ↦ ap (λ x. (after x).guess) is ∙ ap (λ (r : PendingRequest). r.guess) (at_same (suc d) q i.made) ∙ guess ∙ ap Some (sym is)
                | inr other ↦ let le_d : x ≤ d = omega arith in ap (λ (r : PendingRequest). r.guess) (kept x le_d) ∙ g_own x above le_d
              ];
              stand = λ x above le. elim (cases_eq x (suc d)) [
                | inl is ↦ inl (n, Contains-push ns n, mark ∙ ap Some (sym is))
                | inr other ↦
                    let le_d : x ≤ d = omega arith in
                    elim (i.guesses.stand x above le_d) [
                      | inl there ↦ inl (entry_more ns n x there)
                      | inr rests_on ↦ inr (
                        rests_on.0,
                        rests_on.1,
                        elim rests_on.2 [
                          | inl own ↦ inl own
                          | inr carries ↦ inr
                              (ap (λ (r : PendingRequest). has rests_on.0 r.rests) (kept x le_d) ∙ carries)
                        ],
                      )
                    ]
              ];
              good = λ x above le is y carries. i.guesses.good x above le is y (ap (λ (r : PendingRequest). has y r.rests) (sym (kept x (omega arith)))
                  ∙ carries);
              early = λ x above le y carries. i.guesses.early x above le y (ap (λ (r : PendingRequest). has y r.rests) (sym (kept x (omega arith))) ∙ carries);
              answered = i.guesses.answered;
              failed = λ x above there. elim (Contains-push_cases es (Taken n) (Fail x) there) [ inl before ↦ i.guesses.failed x above before | inr is ↦ cc ];
            });
            queue = subst (λ d2. Queue after vs d2 i.base i.a (waiting ++ q ∷ [])) (ap (λ o. counted o d) guess)
                (queue_push i.made after us vs d i.base q (record {
                  own = λ g is. (let new : g ≡ suc d = (let both : Some (suc d) ≡ Some g = sym guess ∙ is in cc) in (
                    new,
                    ap after new ∙ at_same (suc d) q i.made,
                  ));
                  known = λ y h. let here = made.opens y h in (here, i.above y here, low y here);
                  undecided = made.low;
                  next = made.next;
                }) fewer kept i.a waiting i.queue);
            remembers = remembers_push i.bad us vs waiting q memory
                (λ y h is. elim (fewer y h) [ inl was ↦ was | inr new ↦ absurd (let le = i.guesses.answered y is in omega arith) ]) made.opens i.remembers;
            answers = λ x there.
                let s = i.answers x there in
                record {
                  known = s.known;
                  kept = s.kept;
                  own = λ g is. (let o = s.own g is in let le = o.1 in (o.0, o.1, kept g (omega arith) ∙ o.2, o.3));
                  fits = s.fits;
                };
          };
          within = i.within;
          stands = λ r a x there gives asked. subst (λ ns. HasStep S start ns r x) (sym same) (step_more ns n r x (i.stands r a x there gives asked));
          asked = pushed pending q (λ r before asked. elim (i.asked r before asked) [
            | inl void ↦
                let le = void.2 in
                inl (
                  void.0,
                  void.1,
                  omega arith,
                  lost_more S start table es (Taken n) void.0 (λ there. elim (fewer void.0 there) [ inl was ↦ was | inr is ↦ absurd (omega arith) ]) refl void.3,
                )
            | inr ready ↦ inr (subst (λ ns. Ready S start ns vs r) (sym same)
                (ready_taken S start table ns us vs n f r accepted (quiet r before asked ready)
                (λ y there. elim (fewer y there) [ inl was ↦ inl was | inr is ↦ inr (new_clean es n sound y (mark ∙ ap Some (sym is))) ]) ready))
          ]) (λ asked. absurd (no_guess q.guess (suc d) asked guess));
          apart = pairs_push _ pending q i.apart (λ r h asked none. absurd (no_guess q.guess (suc d) none guess));
        }

    -- ---- a reply that is given: the request is no longer pending
    pub inv_drop : (q : PendingRequest) → Invariant S start es d served given (q ∷ pending) waiting memory → Invariant S start es d served given pending waiting memory
    inv_drop q i =
        record { core = i.core; within = i.within; stands = i.stands; asked = λ r there. i.asked r (cons_later q pending r there); apart = i.apart.1 }

    -- and it is written down, where its step stands if it was asked and not dropped
    pub inv_done : (x : Served) → Contains served x → ((y : Input) → input_of x.1 ≡ Some y → x.0.guess ≡ None → HasStep S start (record_of (kernel S) start es) x.0 y)
        → Invariant S start es d served given pending waiting memory → Invariant S start es d served (given ++ x ∷ []) pending waiting memory
    inv_done x there stands i = record {
      core = i.core;
      within = λ y h. elim (Contains-push_cases given x y h) [ inl before ↦ i.within y before | inr is ↦ subst (Contains served) is there ];
      stands = λ q a y h gives asked. elim (Contains-push_cases given x (q, a) h) [
        | inl before ↦ i.stands q a y before gives asked
        | inr is ↦
            let is_q : x.0 ≡ q = ap (λ (x : Served). x.0) is in
            subst (λ (r : PendingRequest). HasStep S start (record_of (kernel S) start es) r y) is_q
            (stands y (ap (λ (x : Served). input_of x.1) is ∙ gives) (ap (λ (r : PendingRequest). r.guess) is_q ∙ asked))
      ];
      asked = i.asked;
      apart = i.apart;
    }

    -- ---- an answer of the server, where after it guesses up to a2 are answered, and those of bad are refused
    pub inv_answer : (after : List ℕ) (q : PendingRequest) (ans : Answer) (i : Invariant S start es d served given pending (q ∷ waiting) memory) (bad : ℕ → Bool) (a : ℕ)
        → a ≡ counted q.guess i.a → i.a ≤ a → ((y : ℕ) → y ≤ i.a → bad y ≡ i.bad y) → ((y : ℕ) → y ≤ a → (y ≤ i.a) ⊎ (q.guess ≡ Some y))
        → ((y : ℕ) → bad y ≡ true → (i.bad y ≡ true) ⊎ (q.guess ≡ Some y))
        → ((g : ℕ) → q.guess ≡ Some g → (g ≤ a) × (bad g ≡ not (is_accepted ans)))
        → ((ans ≡ Dropped → ⊥) → (y : ℕ) → has y q.rests ≡ true → has y (remembered (sent q) memory) ≡ true → ⊥)
        → ((y : ℕ) → has y (remembered (sent q) memory) ≡ true → has y after ≡ true)
        → ((g : ℕ) → q.guess ≡ Some g → is_accepted ans ≡ false → has g after ≡ true)
        → ((m : Bytes) (v : ℕ) (b : Bytes) → q.ask ≡ Store m v b → ans ≡ Yes → v < S.last)
        → Invariant S start es d (served ++ (q, ans) ∷ []) given pending waiting after
    inv_answer after q ans i bad a counts a_le same split new_bad own drops stays joins fits =
        let K = kernel S in
        let w = i.queue.0 in
        let base_le = i.base_le in
        -- a refused guess that the request depends on is remembered
        let kept : (ans ≡ Dropped → ⊥) → (y : ℕ) → has y q.rests ≡ true → bad y ≡ false =
        λ yes y carries. false_from_ne_true _ (λ is.
        let le = (w.known y carries).1 in
        drops yes y carries (still_remembered q memory y (w.low y carries) (i.remembers.waiting q (cons_first q waiting) y carries (sym (same y le) ∙ is)))) in
        let remember : (y : ℕ) → q.settled ≤ y → (i.bad y ≡ true → has y memory ≡ true) → bad y ≡ true → has y after ≡ true =
        λ y le old is. elim (new_bad y is) [
          | inl was ↦ stays y (still_remembered q memory y le (old was))
          | inr its ↦ joins y its (let refused : true ≡ not (is_accepted ans) = sym is ∙ (own y its).1 in elim (is_accepted ans) as (λ b. true ≡ not b → b ≡ false) [ true ↦ λ h. h | false ↦ λ h. refl ] refused)
        ] in
        let not_dropped : is_accepted ans ≡ true → ans ≡ Dropped → ⊥ = λ yes is. true≢false (sym yes ∙ ap is_accepted is) in
        record {
          core = record {
            marks = record { made = i.made; bad = bad; base = i.base; a = a; base_le = omega arith };
            sound = i.sound;
            drawn = i.drawn;
            above = i.above;
            entries = i.entries;
            guesses = record {
              own = i.guesses.own;
              stand = λ x above le. elim (i.guesses.stand x above le) [
                | inl there ↦ inl there
                | inr rests_on ↦ inr (rests_on.0, same rests_on.0 (i.guesses.answered rests_on.0 rests_on.1) ∙ rests_on.1, rests_on.2)
              ];
              good = λ x above le is y carries. elim (split x le) [
                | inl before ↦
                    same y (i.guesses.early x above before y carries) ∙ i.guesses.good x above before (sym (same x before) ∙ is) y carries
                | inr its ↦
                    let o = own x its in
                    let yes : is_accepted ans ≡ true = (let refused : false ≡ not (is_accepted ans) = sym is ∙ o.1 in elim
                    (is_accepted ans) as (λ b. false ≡ not b → b ≡ true) [ true ↦ λ h. refl | false ↦ λ h. h ] refused) in
                    kept (not_dropped yes) y (ap (λ (r : PendingRequest). has y r.rests) (sym (w.own x its).1) ∙ carries)
              ];
              early = λ x above le y carries. elim (split x le) [
                | inl before ↦ let low = i.guesses.early x above before y carries in omega arith
                | inr its ↦ let low = (w.known y (ap (λ (r : PendingRequest). has y r.rests) (sym (w.own x its).1) ∙ carries)).1 in omega arith
              ];
              answered = λ y is. elim (new_bad y is) [ inl was ↦ let low = i.guesses.answered y was in omega arith | inr its ↦ (own y its).0 ];
              failed = λ x above there. let was = i.guesses.failed x above there in same x (i.guesses.answered x was) ∙ was;
            };
            queue = subst (λ a. Queue i.made us d i.base a waiting) (sym counts) i.queue.1;
            remembers = record {
              undecided = λ y there is. remember y (w.undecided y there) (i.remembers.undecided y there) is;
              waiting = λ r there y carries is. remember y (w.after r there y carries) (i.remembers.waiting r (cons_later q waiting r there) y carries) is;
            };
            answers = pushed served (q, ans) (λ x before.
                let s = i.answers x before in
                record {
                  known = λ y carries. (let k = s.known y carries in let le = k.1 in (k.0, omega arith));
                  kept = λ yes y carries. same y (s.known y carries).1 ∙ s.kept yes y carries;
                  own = λ g is. (let o = s.own g is in let le = o.1 in (o.0, omega arith, o.2, same g o.1 ∙ o.3));
                  fits = s.fits;
                }) (record {
                  known = λ y carries. (let k = w.known y carries in let le = k.1 in (k.0, omega arith));
                  kept = kept;
                  own = λ g its. (let o = own g its in let g_is = (w.own g its).0 in (omega arith, o.0, (w.own g its).1, o.1));
                  fits = fits;
                });
          };
          within = λ x there. Contains-append_left served ((q, ans) ∷ []) x (i.within x there);
          stands = i.stands;
          asked = i.asked;
          apart = i.apart;
        }
