-- The kernel of a desk with the cause of each entry; that a kernel which was booted stays such; the table of instructions.
pub mod Words
pub use Words.*

-- ======== The kernel of a desk, each of whose entries has why it is there, over a table of instructions; what the table has to say;
-- and that such a label, at which a kernel doesn't look, changes nothing.

-- why an entry is in the record, which no step looks at: it was there when the world began; it is a turn that asked
-- nothing of the server; it belongs to a request
pub data Origin : Type 0 where
  Before : Origin
  Own : Origin
  For : (request : PendingRequest) → Origin

pub record Caused : Type 0 where
  pub process : ℕ
  pub input : Input
  pub guess : Option ℕ
  pub cause : Origin

-- a request with its answer
abbrev pub Served : Type 0
Served = PendingRequest × Answer

-- the instruction table, as far as a desk looks at it
pub record Table (E V W F : Type 0) : Type 1 where
  pub order : E → E → Ordering
  pub goes_to : W → ℕ
  -- the step of a process with an input
  pub act : ℕ → Input → Step E V W F
  pub proc : ℕ → E
  pub copy : Bytes → E
  -- what a step with Good writes for what is asked
  pub does : Ask → List (E × Option V) → Type 0
  -- the last version
  pub last : ℕ

-- a copy's version, 0 where there is none
abbrev pub or_zero : Option ℕ → ℕ
or_zero None = zero
or_zero (Some v) = v

-- the entry of a turn that asks nothing of the server
abbrev pub own : ℕ → Input → Caused
own p x = record { process = p; input = x; guess = None; cause = Own }

-- the entry of an asked request
abbrev pub asked_entry : PendingRequest → Input → Caused
asked_entry q x = record { process = q.process; input = x; guess = None; cause = For q }

module _ {E V W F : Type 0} (S : Table E V W F) where
  -- the system of a table: entries are steps of processes with their inputs, and those of guesses are marked
  abbrev pub kernel : System E V W F (Caused)
  kernel = record { order = S.order; act = λ n. S.act n.process n.input; mark = λ n. n.guess; goes_to = S.goes_to }

  module _ (start : FinMap S.order V) where
    -- the state of the kernel, and its undecided guesses
    abbrev pub state : List (Event Caused) → FinMap S.order V
    state es = run kernel start (record_of kernel start es)

    abbrev pub undecided : List (Event Caused) → List ℕ
    undecided es = undecided_of kernel start es

    -- a guess that failed or was struck
    abbrev pub law_lost : List (Event Caused) → ℕ → Bool
    law_lost es g = not (has g (undecided es)) && not (list_any (is_commit g) es)

    abbrev pub law_void : List (Event Caused) → PendingRequest → Bool
    law_void es q = list_any (law_lost es) q.rests

-- with these scripts
abbrev pub table : Scripts → Table Entity EntityState Saying Refusal
table scripts = record {
  order = entity_cmp;
  goes_to = λ said. said.to;
  act = λ pid x. act scripts pid x;
  proc = Proc;
  copy = Copy;
  does = λ ask ws. DoesAsked ask ws;
  last = LAST_VERSION;
}

-- an entry of a world's record as the kernel has it, without its cause
abbrev pub bare : Caused → EntryView
bare n = record { pid = n.process; input = n.input; guess = n.guess }

-- ---- what the table has to say

module _ {E V W F : Type 0} (S : Table E V W F) where
  -- what a fetch or store with Good writes
  abbrev pub Sets : Ask → Input → List (E × Option V) → Type 0
  Sets ask Good ws = S.does ask ws
  Sets ask x ws = Unit {0}

  -- an entity is the process or the copy
  abbrev pub IsEither : ℕ → Bytes → E → Type 0
  IsEither p m e = (e ≡ S.proc p) ⊎ (e ≡ S.copy m)

  -- the step of a fetch or store with an input: it is accepted, and touches its process and its copy alone
  pub record Takes (s : FinMap S.order V) (p : ℕ) (ask : Ask) (x : Input) : Type 0 where
    pub effect : Effect E V W
    pub accepted : outcome (kernel S) s (own p x) ≡ Ok effect
    pub reads : (e : E) → Contains (map (λ r. r.0) effect.read) e → IsEither p (asked_name ask) e
    pub writes : (e : E) → Contains (map (λ w. w.0) effect.written) e → IsEither p (asked_name ask) e
    pub sets : Sets ask x effect.written

  -- how entities are told apart
  pub record IsTable : Type 0 where
    pub total : IsTotalOrder S.order
    pub exact : IsAntisymmetric S.order
    pub apart : (p : ℕ) (m : Bytes) → S.proc p ≡ S.copy m → ⊥
    pub processes : (p q : ℕ) → S.proc p ≡ S.proc q → p ≡ q
    pub copies : (m n : Bytes) → S.copy m ≡ S.copy n → m ≡ n

module _ {A N : Type 0} (bare : A → N) where
  -- the event without labels
  abbrev pub bare_event : Event A → Event N
  bare_event (Taken a) = Taken (bare a)
  bare_event (Commit g) = Commit g
  bare_event (Fail g) = Fail g

  -- the kernel that looks at no label
  abbrev pub labelled : {E V W F : Type 0} → System E V W F N → System E V W F A
  labelled K = record { order = K.order; act = λ a. K.act (bare a); mark = λ a. K.mark (bare a); goes_to = K.goes_to }

  -- its record is the kernel's with labels: the same steps, state and undecided guesses
  pub record IsBare {E V W F : Type 0} (K : System E V W F N) (start : FinMap K.order V) (es : List (Event A)) : Type 0 where
    pub entries : map bare (record_of (labelled K) start es) ≡ record_of K start (map bare_event es)
    pub state :
        run (labelled K) start (record_of (labelled K) start es) ≡ run K start (record_of K start (map bare_event es))
    pub steps :
        effects (labelled K) start (record_of (labelled K) start es)
        ≡ effects K start (record_of K start (map bare_event es))
    pub guesses : undecided_of (labelled K) start es ≡ undecided_of K start (map bare_event es)

keep_map : {A B : Type 0} (f : A → B) (bs : List Bool) (xs : List A) → map f (keep bs xs) ≡ keep bs (map f xs)
keep_map f [] xs = refl
keep_map f (b ∷ bs) [] = refl
keep_map f (true ∷ bs) (x ∷ xs) = keep_map f bs xs
keep_map f (false ∷ bs) (x ∷ xs) = ap (λ ys. f x ∷ ys) (keep_map f bs xs)

module _ {A N E V W F : Type 0} (bare : A → N) (K : System E V W F N) where
  pub run_bare : (s : FinMap K.order V) (xs : List A) → run (labelled bare K) s xs ≡ run K s (map bare xs)
  run_bare s [] = refl
  run_bare s (x ∷ xs) = run_bare (after K (outcome K s (bare x)) s) xs

  effects_bare : (s : FinMap K.order V) (xs : List A) → effects (labelled bare K) s xs ≡ effects K s (map bare xs)
  effects_bare s [] = refl
  effects_bare s (x ∷ xs) = ap (λ fs. marked_effect K (K.mark (bare x)) (outcome K s (bare x)) ∷ fs) (effects_bare (after K (outcome K s (bare x)) s) xs)

  module _ (start : FinMap K.order V) where
    strike_bare : (xs : List A) (g : ℕ) → map bare (strike (labelled bare K) start xs g) ≡ strike K start (map bare xs) g
    strike_bare xs g = keep_map bare (struck (labelled bare K) start xs g) xs ∙ ap (λ ts. keep (hits K.order g [] ts) (map bare xs)) (effects_bare start xs)

    abbrev bare_record : Record A → Record N
    bare_record r = record { entries = map bare r.entries; undecided = r.undecided }

    one_bare : (r : Record A) (e : Event A) → bare_record (recorded (labelled bare K) start r e) ≡ recorded K start (bare_record r) (bare_event bare e)
    one_bare r (Taken a) = ap (λ ns. record { entries = ns; undecided = r.undecided ++ marks (K.mark (bare a)) }) (map-append bare r.entries (a ∷ []))
    one_bare r (Commit g) = refl
    one_bare r (Fail g) =
        λ i. record {
          entries = strike_bare r.entries g i;
          undecided = filter (still_marked ((effects_bare start (strike (labelled bare K) start r.entries g) ∙ ap (effects K start) (strike_bare r.entries g)) i)) r.undecided;
        }

    all_bare : (r : Record A) (es : List (Event A)) → bare_record (all_recorded (labelled bare K) start r es) ≡ all_recorded K start (bare_record r) (map (bare_event bare) es)
    all_bare r [] = refl
    all_bare r (e ∷ es) = all_bare (recorded (labelled bare K) start r e) es ∙ ap (λ r. all_recorded K start r (map (bare_event bare) es)) (one_bare r e)

    pub is_bare : (es : List (Event A)) → IsBare bare K start es
    is_bare es =
        let entries : map bare (record_of (labelled bare K) start es) ≡ record_of K start (map (bare_event bare) es) =
        ap (map bare) (sym (entries_are (labelled bare K) start es)) ∙ ap (λ (r : Record N). r.entries) (all_bare no_record es) ∙ entries_are K start (map (bare_event bare) es) in
        record {
          entries = entries;
          state = run_bare start (record_of (labelled bare K) start es) ∙ ap (run K start) entries;
          steps = effects_bare start (record_of (labelled bare K) start es) ∙ ap (effects K start) entries;
          guesses = ap (λ (r : Record N). r.undecided) (all_bare no_record es);
        }

-- ======== A kernel that was booted is such after each of its calls, in whatever epoch: its trace is sound, and has its places.

-- a filter that drops a number makes the list shorter
pub filter_shorter : (p : ℕ → Bool) (g : ℕ) → p g ≡ false → (xs : List ℕ) → has g xs ≡ true → length (filter p xs) < length xs
filter_shorter p g none [] here = absurd (true≢false (sym here))
filter_shorter p g none (x ∷ xs) here =
    let short = shorter p xs in
    elim (or_cases (x == g) (has g xs) here) [
      | inl is ↦
          let out : p x ≡ false = ap p (eqb-true x g is) ∙ none in
          subst (λ b. length (cond b (x ∷ filter p xs) (filter p xs)) < suc (length xs)) (sym out) (omega arith)
      | inr later ↦
          let less = filter_shorter p g none xs later in
          elim (p x) as (λ b. length (cond b (x ∷ filter p xs) (filter p xs)) < suc (length xs)) [ true ↦ omega arith | false ↦ omega arith ]
    ]

module _ {E V W F N : Type 0} (K : System E V W F N) (start : FinMap K.order V) where
  pub opens_taken : (es : List (Event N)) (n : N) → length (undecided_of K start (es ++ Taken n ∷ [])) ≡ length (undecided_of K start es) + length (marks (K.mark n))
  opens_taken es n = ap (λ (r : Record N). length r.undecided) (recorded_more K start no_record es (Taken n)) ∙ length-append (undecided_of K start es) (marks (K.mark n))

  pub opens_commit : (es : List (Event N)) (g : ℕ) → has g (undecided_of K start es) ≡ true → length (undecided_of K start (es ++ Commit g ∷ [])) < length (undecided_of K start es)
  opens_commit es g here =
      subst (λ (r : Record N). length r.undecided < length (undecided_of K start es)) (sym (recorded_more K start no_record es (Commit g)))
      (filter_shorter (λ t. not (t == g)) g (ap not (eq-eqb g g refl)) (undecided_of K start es) here)

  pub opens_fail : (es : List (Event N)) (g : ℕ) → IsSound K start (es ++ Fail g ∷ []) → has g (undecided_of K start es) ≡ true
      → length (undecided_of K start (es ++ Fail g ∷ [])) < length (undecided_of K start es)
  opens_fail es g sound here =
      let us = undecided_of K start es in
      let p : ℕ → Bool = still_marked (effects K start (strike K start (all_recorded K start no_record es).entries g)) in
      let same : undecided_of K start (es ++ Fail g ∷ []) ≡ filter p us = ap (λ (r : Record N). r.undecided) (recorded_more K start no_record es (Fail g)) in
      let none : p g ≡ false = elim (cases_Bool (p g)) [
        | inl is ↦ absurd (true≢false (sym (has_filter p g us ∙ (λ i. is i && here i)) ∙ ap (has g) (sym same) ∙ decided_shut K start es (Fail g) g sound (inr refl)))
        | inr is ↦ is
      ] in
      subst (λ xs. length xs < length us) (sym same) (filter_shorter p g none us here)

-- the places of a kernel's trace that are taken, or kept free for a decision
abbrev pub used : KernelView → ℕ
used k = length k.trace + length (undecided_at k)

module _ (k : KernelView) where
  open_event : (e : Logged) → undecided_at (with_event k e) ≡ undecided_of (plain k.scripts) k.start (events_of k ++ image e ∷ [])
  open_event e = ap (undecided_of (plain k.scripts) k.start) (map-append image k.trace (e ∷ []))

  pub used_step : (p : ℕ) (input : Input) → used (with_event k (Logged.Step p input)) ≡ used k + 1
  used_step p input =
      let a = length-append k.trace (Logged.Step p input ∷ []) in
      let b = ap length (open_event (Logged.Step p input)) ∙ opens_taken (plain k.scripts) k.start (events_of k) (entry p input None) in
      omega (arith, a, b)

  pub used_guess : (g p : ℕ) (input : Input) → used (with_event k (Logged.Guess g p input)) ≡ used k + 2
  used_guess g p input =
      let a = length-append k.trace (Logged.Guess g p input ∷ []) in
      let b = ap length (open_event (Logged.Guess g p input)) ∙ opens_taken (plain k.scripts) k.start (events_of k) (entry p input (Some g)) in
      omega (arith, a, b)

  used_shut : (e : Logged) → length (undecided_of (plain k.scripts) k.start (events_of k ++ image e ∷ [])) < length (undecided_at k) → used (with_event k e) ≤ used k
  used_shut e less =
      let a = length-append k.trace (e ∷ []) in
      let b = ap length (open_event e) in
      omega (arith, a, b, less)

  pub used_commit : (g : ℕ) → has g (undecided_at k) ≡ true → used (with_event k (Logged.Commit g)) ≤ used k
  used_commit g here = used_shut (Logged.Commit g) (opens_commit (plain k.scripts) k.start (events_of k) g here)

-- ---- a sound trace stays so

module _ (k : KernelView) (sound : HasSoundTrace k) where
  sound_more : (e : Logged) → IsSound (plain k.scripts) k.start (events_of k ++ image e ∷ []) → IsSound (plain k.scripts) k.start (events_of (with_event k e))
  sound_more e is = subst (IsSound (plain k.scripts) k.start) (sym (map-append image k.trace (e ∷ []))) is

  pub step_sound : (p : ℕ) (input : Input) (f : Did) → effect_at k (entry p input None) ≡ Ok f → HasSoundTrace (with_event k (Logged.Step p input))
  step_sound p input f is =
      epoch_step k sound p input (sound_more (Logged.Step p input) (sound_taken (plain k.scripts) k.start (events_of k) (entry p input None) sound.sound (λ g h mark drawn. absurd cc) (ap is_ok is)))

  drawn_below : (g h : ℕ) → Some (next_guess k) ≡ Some g → IsDrawn (plain k.scripts) (events_of k) h → h < g
  drawn_below g h mark drawn =
      let same : next_guess k ≡ g = cc in
      let less = below_next k sound h drawn in
      omega (arith, same, less)

  pub guess_sound : (p : ℕ) (input : Input) (f : Did) → effect_at k (entry p input (Some (next_guess k))) ≡ Ok f → HasSoundTrace (with_event k (Logged.Guess (next_guess k) p input))
  guess_sound p input f is =
      epoch_guess k sound p input (sound_more (Logged.Guess (next_guess k) p input) (sound_taken (plain k.scripts) k.start (events_of k) (entry p input (Some (next_guess k))) sound.sound drawn_below (ap is_ok is)))

  module _ (g : ℕ) (here : has g (undecided_at k) ≡ true) where
    status : StatusIs (plain k.scripts) k.start (events_of k) g Undecided
    status = (is_undecided (plain k.scripts) k.start (events_of k) sound.sound g).0 here

    pub commit_sound : HasSoundTrace (with_event k (Logged.Commit g))
    commit_sound = epoch_commit k sound g (sound_more (Logged.Commit g) (sound_commit (plain k.scripts) k.start (events_of k) g sound.sound status))

    fails : IsSound (plain k.scripts) k.start (events_of k ++ Fail g ∷ [])
    fails = sound_fail (plain k.scripts) k.start entity_total entity_exact (events_of k) g sound.sound status

    pub fail_sound : HasSoundTrace (with_event k (Logged.Fail g))
    fail_sound = epoch_fail k sound g (sound_more (Logged.Fail g) fails)

    pub used_fail : used (with_event k (Logged.Fail g)) ≤ used k
    used_fail = used_shut k (Logged.Fail g) (opens_fail (plain k.scripts) k.start (events_of k) g fails here)

-- before its first event, where no guess of earlier epochs is undecided
at_first : (k : KernelView) → IsTidyState k.start → ((g : ℕ) → status_in k.earlier g ≡ Some Undecided → ⊥) → WasBooted (record k { trace = [] })
at_first k tidy decided = record {
  start = tidy;
  sound = record { sound = sound_first (plain k.scripts) k.start; decided = decided; above = λ g drawn. (let below = drawn.1.1 in absurd (omega arith)) };
  place = omega arith;
}

pub was_booted : (number : ℕ) (boot : BootView) (limit : ℕ) → IsNumbered boot → WasBooted (booted number boot limit)
was_booted number boot limit numbered =
    at_first (booted number boot limit) (tidy_start boot numbered) (λ g is. (let none : None ≡ Some Undecided = sym (nothing_in g) ∙ is in cc))

fits : (input : Input) (does : Result Did Refusal) → guess_misfits input does ≡ None → refusal_of does ≡ None
fits Input.None does h = absurd cc
fits input does h = h

module _ (k : KernelView) (b : WasBooted k) where
  -- one event more
  longer : (e : Logged) → HasSoundTrace (with_event k e) → used (with_event k e) ≤ k.limit → WasBooted (with_event k e)
  longer e sound place = record { start = b.start; sound = sound; place = place }

  places_left : (n : ℕ) → trace_full k n ≡ None → n ≤ room k
  places_left n free = ltb-false (room k) n (none_test (nat_lt (room k) n) TraceFull free)

  step_stays : (pid : ℕ) (input : Input) → step_refused k (entry pid input None) ≡ None → WasBooted (with_event k (Logged.Step pid input))
  step_stays pid input h =
      let n = entry pid input None in
      let does = ok_of (effect_at k n) (none_first (refusal_of (effect_at k n)) (no_room (state_at k) (effect_at k n)) (none_first (step_misfit k n) (trace_full k 1) h)) in
      let least = places_left 1 (none_later (step_misfit k n) (trace_full k 1) h) in
      let more = used_step k pid input in
      longer (Logged.Step pid input) (step_sound k b.sound pid input does.0 does.1) (omega (arith, least, more))

  guess_stays : (pid : ℕ) (input : Input) → guess_refused k (entry pid input (Some (next_guess k))) ≡ None → WasBooted (with_event k (Logged.Guess (next_guess k) pid input))
  guess_stays pid input h =
      let n = entry pid input (Some (next_guess k)) in
      let later = or_else (too_many k) (trace_full k 2) in
      let does = ok_of (effect_at k n) (fits input (effect_at k n) (none_first (guess_misfits input (effect_at k n)) later h)) in
      let least = places_left 2 (none_later (too_many k) (trace_full k 2) (none_later (guess_misfits input (effect_at k n)) later h)) in
      let more = used_guess k (next_guess k) pid input in
      longer (Logged.Guess (next_guess k) pid input) (guess_sound k b.sound pid input does.0 does.1) (omega (arith, least, more))

  module _ (g : ℕ) (status : HasStatus k g Undecided) where
    here : has g (undecided_at k) ≡ true
    here = (open_is k b.sound g).1 status

    commit_stays : WasBooted (with_event k (Logged.Commit g))
    commit_stays = longer (Logged.Commit g) (commit_sound k b.sound g here) (let was = b.place in let less = used_commit k g here in omega (arith, was, less))

    fail_stays : WasBooted (with_event k (Logged.Fail g))
    fail_stays = longer (Logged.Fail g) (fail_sound k b.sound g here) (let was = b.place in let less = used_fail k b.sound g here in omega (arith, was, less))

-- ---- a hand-in

module _ (k : KernelView) (pid : ℕ) where
  abbrev alone_event : Happens EntryView
  alone_event = Taken (entry pid Input.None None)

  -- its steps draw no guess
  drawn_before : (n g : ℕ) → IsDrawn (plain k.scripts) (events_of (with_steps k pid n)) g → IsDrawn (plain k.scripts) (events_of k) g
  drawn_before n g d =
      elim (Contains-append_cases (events_of k) (replicate n alone_event) (Taken d.0) (subst (λ es. Contains es (Taken d.0)) (images_more k.trace n (alone_step pid)) d.1)) [
        | inl before ↦ (d.0, before, d.2)
        | inr new ↦ absurd (
            let same : alone_event ≡ Taken d.0 = All-contains (λ e. alone_event ≡ e) (replicate n alone_event) (Taken d.0) (All-replicate (λ e. alone_event ≡ e) n alone_event refl) new in
            let its : entry pid Input.None None ≡ d.0 = cc in
            let none : None ≡ Some g = ap (λ (n : EntryView). n.guess) its ∙ d.2 in
            cc)
      ]

  opens_alone : (n : ℕ) (es : List (Happens EntryView)) → length (undecided_of (plain k.scripts) k.start (es ++ replicate n alone_event)) ≡ length (undecided_of (plain k.scripts) k.start es)
  opens_alone zero es = ap (λ es. length (undecided_of (plain k.scripts) k.start es)) (append-nil es)
  opens_alone (suc n) es =
      ap (λ es. length (undecided_of (plain k.scripts) k.start es)) (sym (append_assoc es (alone_event ∷ []) (replicate n alone_event)))
      ∙ opens_alone n (es ++ alone_event ∷ [])
      ∙ (let one = opens_taken (plain k.scripts) k.start es (entry pid Input.None None) in
      let same : length (undecided_of (plain k.scripts) k.start (es ++ alone_event ∷ [])) ≡ length (undecided_of (plain k.scripts) k.start es) = omega (arith, one) in
      same)

  used_alone : (n : ℕ) → used (with_steps k pid n) ≡ used k + n
  used_alone n =
      let long = length-append k.trace (replicate n (alone_step pid)) in
      let many = length-replicate n (alone_step pid) in
      let opens : length (undecided_at (with_steps k pid n)) ≡ length (undecided_at k) =
      ap (λ es. length (undecided_of (plain k.scripts) k.start es)) (images_more k.trace n (alone_step pid)) ∙ opens_alone n (events_of k) in
      omega (arith, long, many, opens)

module _ (k : KernelView) (sound : HasSoundTrace k) (l : LeaseView) where
  abbrev before : Machine Entity EntityState Saying
  before = machine_after (plain k.scripts) k.start (events_of k)

  before_stands : MergedStands (plain k.scripts) k.start (events_of k) before
  before_stands = record {
    full = before;
    stands = machine_stands (plain k.scripts) entity_total entity_exact k.start (events_of k) sound.sound;
    merged = record { look = λ e. refl; logs = λ e. all_kept [] (before.state.logs e); opens = refl; status = λ g. refl; texts = λ t. refl };
  }

  -- with the process as it became
  abbrev handed_on : Machine Entity EntityState Saying
  handed_on = record {
    state = record {
      look = with_value (plain k.scripts) before.state.look (Proc l.lent.pid) (EntityState.Process l.now);
      logs = λ e. before.state.logs e ++ noted (eq_by_cmp entity_cmp e (Proc l.lent.pid)) (alone_tags (plain k.scripts) before (Proc l.lent.pid) (alone_reads l.lent.pid)) (before.state.look e) [];
      opens = before.state.opens;
    };
    status = before.status;
    texts = before.texts;
  }

  hands : HandsIn (plain k.scripts) before (Proc l.lent.pid) (alone_reads l.lent.pid) (EntityState.Process l.now) handed_on
  hands = record { look = λ e. refl; logs = λ e. all_kept [] (handed_on.state.logs e); opens = refl; status = λ g. refl; texts = λ t. refl }

  handed_sound : IsAsLent k l → after_private l.script l.count l.lent ≡ Some l.now → 0 < l.count → HasSoundTrace (with_steps k l.lent.pid l.count)
  handed_sound as_lent done some = record {
    sound = (stands_handed k before before_stands l l.now handed_on as_lent done some hands).stands.sound;
    decided = sound.decided;
    above = λ g drawn. sound.above g (drawn_before k l.lent.pid l.count g drawn);
  }

handed : (k : KernelView) → WasBooted k → (l : LeaseView) → IsAsLent k l → l.count ≤ room k → after_private l.script l.count l.lent ≡ Some l.now → WasBooted (with_steps k l.lent.pid l.count)
handed k b l as_lent few done =
    elim l.count as (λ n. l.count ≡ n → WasBooted (with_steps k l.lent.pid n)) [
      | zero ↦ λ _. subst WasBooted (sym (no_step k l.lent.pid)) b
      | suc n ↦ λ is.
          subst (λ m. WasBooted (with_steps k l.lent.pid m)) is (record {
            start = b.start;
            sound = handed_sound k b.sound l as_lent done (omega (arith, is));
            place = (let was = b.place in let more = used_alone k l.lent.pid l.count in omega (arith, was, more, few, is));
          })
    ] refl

none_handed : (why : HandIn) (l : LeaseView) (old new : KernelView) → TakesIn (Err why) l old new → new ≡ old
none_handed HandIn.Stale l old new h = h.1
none_handed HandIn.TraceFull l old new h = h.2
none_handed HandIn.Memory l old new h = h.3

-- ---- an epoch

module _ (old new : KernelView) (b : WasBooted old) (done : undecided_at old ≡ []) (next : IsNextEpoch old new) where
  none_undecided : (g : ℕ) → status_in new.earlier g ≡ Some Undecided → ⊥
  none_undecided g is =
      let now : HasStatus new g Undecided = subst (λ o. StatusOr (plain new.scripts) new.start o (events_of new) g Undecided) (sym is) refl in
      true≢false (sym ((open_is old b.sound g).1 ((next.statuses g Undecided).0 now)) ∙ ap (has g) done)

  pub begins_anew : WasBooted new
  begins_anew =
      subst WasBooted (sym next.view)
      (at_first (record old { start = state_at old; earlier = new.earlier }) (plain_tidy old.scripts old.start (record_at old) b.start) none_undecided)

-- ---- each call

pub after_step : (result : Result (Unit {0}) Refusal) (pid : ℕ) (input : Input) (old new : KernelView) → StepPost result (step_refused old (entry pid input None)) (Logged.Step pid input) old new
    → WasBooted old → WasBooted new
after_step (Ok u) pid input old new h b = subst WasBooted (sym h.1) (step_stays old b pid input h.0)
after_step (Err why) pid input old new h b = subst WasBooted (sym h.1) b

pub after_guess : (result : Result Token Refusal) (pid : ℕ) (input : Input) (old new : KernelView) → GuessPost result (guess_refused old (entry pid input (Some (next_guess old)))) pid input old new
    → WasBooted old → WasBooted new
after_guess (Ok token) pid input old new h b = subst WasBooted (sym h.2) (guess_stays old b pid input h.0)
after_guess (Err why) pid input old new h b = subst WasBooted (sym h.1) b

pub after_commit : (result : Result Outcome Stranger) (token : Token) (old new : KernelView) → CommitPost result token old new → WasBooted old → WasBooted new
after_commit (Ok Outcome.Done) token old new h b = subst WasBooted (sym h.2) (commit_stays old b token.id h.1)
after_commit result token old new h b = subst WasBooted (sym h.2) b

pub after_fail : (result : Result Outcome FailRefusal) (token : Token) (old new : KernelView) → FailPost result token old new → WasBooted old → WasBooted new
after_fail (Ok Outcome.Done) token old new h b = subst WasBooted (sym h.2) (fail_stays old b token.id h.1)
after_fail (Ok Outcome.Gone) token old new h b = subst WasBooted (sym h.2) b
after_fail (Err (FailRefusal.Stranger guess)) token old new h b = subst WasBooted (sym h.2) b

pub after_hand_in : (result : Result (Unit {0}) (LeaseView × HandIn)) (l : LeaseView) (old new : KernelView) → HandInPost result l old new → after_private l.script l.count l.lent ≡ Some l.now
    → WasBooted old → WasBooted new
after_hand_in (Ok u) l old new h done b = subst WasBooted (sym h.2) (handed old b l h.0 h.1 done)
after_hand_in (Err back) l old new h done b = subst WasBooted (sym (none_handed back.1 l old new h.1)) b

pub after_epoch : (result : Result (TraceView × TerminalMap) EpochRefusal) (old new : KernelView) → EpochPost result old new → WasBooted old → WasBooted new
after_epoch (Ok left) old new h b = begins_anew old new b h.0 h.3
after_epoch (Err (EpochRefusal.Undecided n)) old new h b = subst WasBooted (sym h.2) b
after_epoch (Err EpochRefusal.Memory) old new h b = subst WasBooted (sym h.1) b

-- ======== The kernel's table is one: what the laws of worlds ask of a table holds of it, from the start of
-- every boot on, by the steps of a fetch and of a store with each input.

pub steps_so : (scripts : Scripts) (s : State) (pid : ℕ) (i : Instruction) (x : Input) (is : IsAt scripts s pid i)
    → perform (get s) (act scripts pid x) ≡ with_read (Proc pid) (Some (EntityState.Process is.process)) (perform (get s) (with_input pid is.process (Some i) x))
steps_so scripts s pid i x is =
    let p = is.process in
    steps_on scripts s pid x p is.there is.goes ∙ ap (λ i. with_read (Proc pid) (Some (EntityState.Process p)) (perform (get s) (with_input pid p i x))) is.at

module _ (scripts : Scripts) (s : State) (pid : ℕ) (name : Bytes) where
  abbrev IsOwn : Entity → Type 0
  IsOwn = IsEither (table scripts) pid name

  both : (e : Entity) → Contains (Proc pid ∷ Copy name ∷ []) e → IsOwn e
  both e h = elim (one_of_two (Proc pid) (Copy name) e h) [ inl is ↦ inl (sym is) | inr is ↦ inr (sym is) ]

  turned : (e : Entity) → Contains (Copy name ∷ Proc pid ∷ []) e → IsOwn e
  turned e h = elim (one_of_two (Copy name) (Proc pid) e h) [ inl is ↦ inr (sym is) | inr is ↦ inl (sym is) ]

  alone : (e : Entity) → Contains (Proc pid ∷ []) e → IsOwn e
  alone e h = inl (sym (only_one (Proc pid) e h))

  pub takes_fresh : (c : ContentView) → IsAt scripts s pid (Instruction.Fetch name) → Takes (table scripts) s pid (Get name) (Fresh c)
  takes_fresh c is = record {
    effect = record {
      read = (Proc pid, Some (EntityState.Process is.process)) ∷ [];
      written = (Copy name, Some (copy_of c)) ∷ (Proc pid, Some (EntityState.Process (fetched is.process c))) ∷ [];
      said = None;
    };
    accepted = steps_so scripts s pid (Instruction.Fetch name) (Input.Fresh c) is;
    reads = alone;
    writes = turned;
    sets = tt;
  }

  pub takes_stale : (v : ℕ) (b : Bytes) (c : ContentView) → IsAt scripts s pid (Instruction.Store name) → Takes (table scripts) s pid (Store name v b) (Stale c)
  takes_stale v b c is = record {
    effect = record {
      read = (Proc pid, Some (EntityState.Process is.process)) ∷ [];
      written = (Copy name, Some (copy_of c)) ∷ (Proc pid, Some (EntityState.Process (failed is.process StaleCopy))) ∷ [];
      said = None;
    };
    accepted = steps_so scripts s pid (Instruction.Store name) (Input.Stale c) is;
    reads = alone;
    writes = turned;
    sets = tt;
  }

  -- a cached copy, by its version
  copy_at : (o : Option EntityState) (v : ℕ) → version_of o ≡ Some v → (c : ContentView) × (o ≡ Some (EntityState.Value (Value.Copy c)))
  copy_at None v is = cc
  copy_at (Some (EntityState.Value (Value.Copy c))) v is = (c, refl)
  copy_at (Some (EntityState.Value w)) v is = cc
  copy_at (Some (EntityState.Process p)) v is = cc

  pub takes_checked : (v : ℕ) → IsAt scripts s pid (Instruction.Fetch name) → version_of (get s (Copy name)) ≡ Some v → Takes (table scripts) s pid (Check name v) Good
  takes_checked v is cached =
      let p = is.process in
      let c = copy_at (get s (Copy name)) v cached in
      record {
        effect = record {
          read = (Proc pid, Some (EntityState.Process p)) ∷ (Copy name, Some (EntityState.Value (Value.Copy c.0))) ∷ [];
          written = (Proc pid, Some (EntityState.Process (fetched p c.0))) ∷ [];
          said = None;
        };
        accepted = steps_so scripts s pid (Instruction.Fetch name) Input.Good is
            ∙ ap (λ o. with_read (Proc pid) (Some (EntityState.Process p)) (with_read (Copy name) o (perform (get s) (from_copy pid p o)))) c.1;
        reads = both;
        writes = alone;
        sets = λ other there. (let no : Proc pid ≡ Copy other = only_one (Proc pid) (Copy other) there in cc);
      }

  -- what a store over this copy writes
  abbrev StoredOver : Process → Option EntityState → ℕ → Type 0
  StoredOver p o v = (q : Process)
      × (perform (get s) (over_copy pid p name o) ≡ Ok (record { read = []; written = (Copy name, Some (copy_of (record { version = v + 1; bytes = p.buffer }))) ∷ (Proc pid, Some (EntityState.Process q)) ∷ []; said = None }))

  stored_over : (p : Process) (o : Option EntityState) (v : ℕ) → IsCopy o → or_zero (version_of o) ≡ v → v < LAST_VERSION → StoredOver p o v
  stored_over p None v is cached lt =
      let version : 1 ≡ v + 1 = ap (λ n. n + 1) cached in
      (answered p 1, (λ i. perform (get s) (with_write pid (Copy name) (Value.Copy (record { version = version i; bytes = p.buffer })) (answered p 1))))
  stored_over p (Some (EntityState.Value (Value.Copy c))) v is cached lt =
      let version : c.version + 1 ≡ v + 1 = ap (λ n. n + 1) cached in
      let below : nat_lt c.version LAST_VERSION ≡ true = lt-ltb c.version LAST_VERSION (subst (λ n. n < LAST_VERSION) (sym cached) lt) in (
        answered p (c.version + 1),
        ap (λ t. perform (get s) (cond t (with_write pid (Copy name) (Value.Copy (record { version = c.version + 1; bytes = p.buffer })) (answered p (c.version + 1))) (Refuse Mismatch))) below
            ∙ (λ i. perform (get s) (with_write pid (Copy name) (Value.Copy (record { version = version i; bytes = p.buffer })) (answered p (c.version + 1)))),
      )
  stored_over p o v is cached lt = absurd is

  pub takes_stored : (v : ℕ) (b : Bytes) → (is : IsAt scripts s pid (Instruction.Store name)) → is.process.buffer ≡ b → IsCopy (get s (Copy name)) → or_zero (version_of (get s (Copy name))) ≡ v → v < LAST_VERSION
      → Takes (table scripts) s pid (Store name v b) Good
  takes_stored v b is buffer copy cached lt =
      let p = is.process in
      let does = stored_over p (get s (Copy name)) v copy cached lt in
      let written = (Copy name, Some (copy_of (record { version = v + 1; bytes = p.buffer }))) ∷ (Proc pid, Some (EntityState.Process does.0)) ∷ [] in
      record {
        effect = record {
          read = (Proc pid, Some (EntityState.Process p)) ∷ (Copy name, get s (Copy name)) ∷ [];
          written = written;
          said = None;
        };
        accepted = steps_so scripts s pid (Instruction.Store name) Input.Good is
            ∙ ap (λ r. with_read (Proc pid) (Some (EntityState.Process p)) (with_read (Copy name) (get s (Copy name)) r)) does.1;
        reads = both;
        writes = turned;
        sets = subst (λ bytes. Contains written (Copy name, Some (copy_of (record { version = v + 1; bytes = bytes })))) buffer (cons_first (Copy name, Some (copy_of (record { version = v + 1; bytes = p.buffer }))) ((Proc pid, Some (EntityState.Process does.0)) ∷ []));
      }

-- ---- the table

run_tidy : (scripts : Scripts) (s : State) (ns : List Caused) → IsTidyState s → IsTidyState (run (kernel (table scripts)) s ns)
run_tidy scripts s ns h = subst IsTidyState (sym (run_bare bare (plain scripts) s ns)) (plain_tidy scripts s (map bare ns) h)

module _ (scripts : Scripts) (start : State) (tidy : IsTidyState start) where
  abbrev reached : List Caused → State
  reached ns = run (kernel (table scripts)) start ns

  -- a process is written by its own steps, or at its birth
  own_or_born : (ns : List Caused) (c pid : ℕ) (p : Process) → get (reached ns) (Proc pid) ≡ Some (EntityState.Process p) → (c ≡ pid) ⊎ IsNextChild pid p c
      → (pid ≡ c) ⊎ (get (reached ns) (Proc c) ≡ None)
  own_or_born ns c pid p there (inl same) = inl (sym same)
  own_or_born ns c pid p there (inr next) =
      elim (get (reached ns) (Proc c)) as (λ o. get (reached ns) (Proc c) ≡ o → (pid ≡ c) ⊎ (o ≡ None)) [
        | None ↦ λ _. inr refl
        | Some v ↦ λ is. absurd (unborn (reached ns) pid p c (run_tidy scripts start ns tidy) there next (subst IsSome (sym is) refl))
      ] refl

  pub owns : (ns : List Caused) (c pid : ℕ) (x : Input) (f : Did) → outcome (kernel (table scripts)) (reached ns) (own pid x) ≡ Ok f
      → Contains (map (λ w. w.0) f.written) (Proc c) → (pid ≡ c) ⊎ (get (reached ns) (Proc c) ≡ None)
  owns ns c pid x f is writes =
      let step = found scripts (reached ns) pid x f is in
      own_or_born ns c pid step.process step.there (step.keeps.processes c writes)

module _ (scripts : Scripts) (s : State) (name : Bytes) (pid : ℕ) where
  abbrev IsNext : Type 0
  IsNext = (next_turn scripts s pid ≡ Ok (Next.Fetch name)) ⊎ (next_turn scripts s pid ≡ Ok (Next.Store name))

  is_next : (p : Process) → get s (Proc pid) ≡ Some (EntityState.Process p) → p.ended ≡ false → IsFree (next_turn scripts s pid) → IsOf (next_in scripts p) name → IsNext
  is_next p there goes free (inl fetch) = inl (turn_at scripts s pid p (Some (Instruction.Fetch name)) there goes fetch free)
  is_next p there goes free (inr store) = inr (turn_at scripts s pid p (Some (Instruction.Store name)) there goes store free)

  can_next : (x : Input) (p : Process) → get s (Proc pid) ≡ Some (EntityState.Process p) → p.ended ≡ false → (next_turn scripts s pid ≡ Ok Next.Signal → x ≡ Input.None) → CanWrite x (next_in scripts p) name → IsNext
  can_next Input.None p there goes due may = absurd may
  can_next x p there goes due may = is_next p there goes (λ is. (let no : x ≡ Input.None = due is in cc)) may

  -- a copy is written by a fetch or a store of its name
  pub copies : (x : Input) (f : Did) → (next_turn scripts s pid ≡ Ok Next.Signal → x ≡ Input.None) → outcome (kernel (table scripts)) s (own pid x) ≡ Ok f → Contains (map (λ w. w.0) f.written) (Copy name) → IsNext
  copies x f due is writes =
      let step = found scripts s pid x f is in
      can_next x step.process step.there step.goes due (step.keeps.copies name writes)

pub not_there : (scripts : Scripts) (s : State) (pid : ℕ) (i : Instruction) → IsAt scripts s pid i → get s (Proc pid) ≡ None → ⊥
not_there scripts s pid i is none = (let both : None ≡ Some (EntityState.Process is.process) = sym none ∙ is.there in cc)

-- a store sets the copy, in the states that a tidy one leads to
pub takes_store : (scripts : Scripts) (start : State) → IsTidyState start → (ns : List Caused) (p : ℕ) (m : Bytes) (v : ℕ)
    → let s = run (kernel (table scripts)) start ns in
    next_turn scripts s p ≡ Ok (Next.Store m) → or_zero (version_of (get s (Copy m))) ≡ v → v < LAST_VERSION → Takes (table scripts) s p (Store m v (buffer_of (get s (Proc p)))) Good
takes_store scripts start tidy ns p m v next cached lt =
    let s = run (kernel (table scripts)) start ns in
    let is = store_at scripts s p m next in
    takes_stored scripts s p m v (buffer_of (get s (Proc p))) is (sym (ap buffer_of is.there)) ((run_tidy scripts start ns tidy).copies m) cached lt

pub is_table : (scripts : Scripts) → IsTable (table scripts)
is_table scripts = record {
  total = entity_total;
  exact = entity_exact;
  apart = λ p m h. cc;
  processes = λ p q h. (let h2 : Proc p ≡ Proc q = h in cc);
  copies = λ m n h. (let h2 : Copy m ≡ Copy n = h in cc);
}
