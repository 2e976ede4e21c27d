-- A turn, a reply and every other event keep all that holds of a world.
pub mod Facts
pub use Facts.*
use Rattle.sk_client.proofs.Names.{turned, answered, IsNext}
use Rattle.sk_server.specs.declared.reply.Answer.TheVariants.{Copy}

-- ======== A turn keeps all that holds of a world.

-- ---- small things

full_next : (d : DeskView) (pid : ℕ) (some : Bool) (next : Next) → rule_next d pid (cond (is_other next && some) Next.Full next) ≡ rule_next d pid next
full_next d pid true Next.Other = refl
full_next d pid false Next.Other = refl
full_next d pid some next = refl

-- a step without room has the rule of any other
rule_full : (d : DeskView) (pid : ℕ) (full : Option Refusal) (r : Result Next Refusal) → rule_of d pid (or_full full r) ≡ rule_of d pid r
rule_full d pid full (Err why) = refl
rule_full d pid full (Ok next) = ap (cond (asks_for pid (pending d)) (Err Blocked)) (full_next d pid (is_some full) next)

-- so many places are free
places_free : (d : DeskView) (n : ℕ) → no_place d n ≡ None → n ≤ room d.kernel - asked_count (pending d)
places_free d n h = ltb-false (room d.kernel - asked_count (pending d)) n (none_test (nat_lt (room d.kernel - asked_count (pending d)) n) TraceFull h)

-- a request is asked more, or none
asked_push : (taken waiting : List PendingRequest) (q : PendingRequest) → asked_count (taken ++ (waiting ++ q ∷ [])) ≡ asked_count (taken ++ waiting) + asked_count (q ∷ [])
asked_push taken waiting q = ap asked_count (sym (append_assoc taken waiting (q ∷ []))) ∙ asked_more (taken ++ waiting) (q ∷ [])

module _ (drawn begun : ℕ) (old : World) (xs : Exchanges) (v : WorldView) (r : Reached drawn begun old xs v) (p : ℕ) where
  abbrev pub Now : WorldView → Type 0
  Now = Reached drawn begun old xs

  abbrev K : KernelView
  K = v.desk.kernel

  abbrev pub its_state : State
  its_state = state (table v.desk.kernel.scripts) v.desk.kernel.start r.trace

  abbrev pub does_next : Result Next Refusal
  does_next = next_of (get its_state) v.desk.kernel.scripts p

  -- no request of the process is asked, and none that is asked is on what it does next
  module _ (none : asks_for p (pending v.desk) ≡ false) (t : Result Next Refusal) (is : does_next ≡ t) (clear : IsClear (pending v.desk) t) where
    -- ---- a step

    steps_on : (input : Input) → (input ≡ Input.Good → ⊥) → (t ≡ Ok Next.Signal → input ≡ Input.None) → rule_refused v.desk p (Rule.Steps input) ≡ None → Now (record v { desk = turned v.desk p (Rule.Steps input) })
    steps_on input bad due h =
        let S = table K.scripts in
        let a = r.all in
        let n = own p input in
        let misfits = none_first (step_misfit K (entry p input None)) (no_place v.desk 1) h in
        let g = ok_of (effect_at K (entry p input None)) (none_first (refusal_of (effect_at K (entry p input None))) (no_room (state_at K) (effect_at K (entry p input None))) misfits) in
        let does = does_seen r.trace K a.traced p input ∙ g.1 in
        let more = sym (last_more K (Logged.Step p input)) in
        reached_by drawn begun old xs _ (r.trace ++ Taken n ∷ []) r.given r.answered a.tidy (traced_step r.trace K a.traced p input n g.0 refl g.1) a.kinds
        (subst (λ d. Invariant S K.start (r.trace ++ Taken n ∷ []) d (r.given ++ law_served v.desk.taken v.replies) r.given (pending v.desk) (unanswered v.desk.taken v.replies ++ v.desk.waiting) v.server.refused) more
        (inv_plain S K.start (is_table K.scripts) r.trace (last_guess K) (r.given ++ law_served v.desk.taken v.replies) r.given (pending v.desk) (unanswered v.desk.taken v.replies ++ v.desk.waiting) v.server.refused n g.0 a.holds does refl
        (λ y there hits q cause. cc) (λ q cause. cc) (λ q cause good. cc)
        (quiet_turn K.scripts K.start a.tidy r.trace (pending v.desk) p input g.0 t does is clear due none)))
        (subst (λ d. RequestFacts S K.start drawn begun old (r.trace ++ Taken n ∷ []) d v.desk.next (r.given ++ law_served v.desk.taken v.replies) r.given (unanswered v.desk.taken v.replies ++ v.desk.waiting)) more
        (facts_own S K.start drawn begun old r.trace (last_guess K) v.desk.next (r.given ++ law_served v.desk.taken v.replies) r.given (unanswered v.desk.taken v.replies ++ v.desk.waiting) a.facts n refl bad))
        (forgets v.desk.kept a.answers p)
        (let free = places_free v.desk 1 (none_later (step_misfit K (entry p input None)) (no_place v.desk 1) h) in
        let taken = used_step K p input in
        omega (arith, free, taken))

    -- ---- a guess

    guesses_on : (ask : Ask) → IsFor (Some (next_guess v.desk.kernel)) ask → Takes (table v.desk.kernel.scripts) its_state p ask Input.Good → (t ≡ Ok Next.Signal → ⊥) → rule_refused v.desk p (Rule.Guesses ask) ≡ None
        → Now (record v { desk = turned v.desk p (Rule.Guesses ask) })
    guesses_on ask kind takes due h =
        let S = table K.scripts in
        let a = r.all in
        let q = request_of v.desk p ask (Some (next_guess K)) in
        let n : Caused = record { process = p; input = Input.Good; guess = Some (next_guess K); cause = For q } in
        let served = r.given ++ law_served v.desk.taken v.replies in
        let waiting = unanswered v.desk.taken v.replies ++ v.desk.waiting in
        let one : next_guess K ≡ suc (last_guess K) = omega arith in
        let misfit = guess_misfits Input.Good (effect_at K (entry p Input.Good (Some (next_guess K)))) in
        let later = none_later (too_many K) (or_else (no_number v.desk) (no_place v.desk 2)) (none_later misfit (or_else (too_many K) (or_else (no_number v.desk) (no_place v.desk 2))) h) in
        let does = sym (does_seen r.trace K a.traced p Input.Good) ∙ takes.accepted in
        let num : suc (last_guess K) ≡ last_guess (with_event K (Logged.Guess (next_guess K) p Input.Good)) = sym one ∙ sym (last_more K (Logged.Guess (next_guess K) p Input.Good)) in
        let numbers : suc v.desk.next ≡ v.desk.next + 1 = omega arith in
        let waits = append_assoc (unanswered v.desk.taken v.replies) v.desk.waiting (q ∷ []) in
        let pends = append_assoc v.desk.taken v.desk.waiting (q ∷ []) in
        reached_by drawn begun old xs _ (r.trace ++ Taken n ∷ []) r.given r.answered a.tidy (traced_guess r.trace K a.traced p n takes.effect refl does)
        (subst AreFor pends (more_for (pending v.desk) q a.kinds kind))
        (subst (λ (c : ℕ × (List PendingRequest × List PendingRequest)). Invariant S K.start (r.trace ++ Taken n ∷ []) c.0 served r.given c.1.0 c.1.1 v.server.refused) (λ i. (num i, (pends i, waits i)))
        (inv_guess S K.start (is_table K.scripts) r.trace (last_guess K) served r.given (pending v.desk) waiting v.server.refused q n a.holds takes (ap Some one)
        (made_seen r.trace K a.traced q refl refl) refl
        (quiet_turn K.scripts K.start a.tidy r.trace (pending v.desk) p Input.Good takes.effect t takes.accepted is clear (λ at. absurd (due at)) none)))
        (subst (λ (c : ℕ × (ℕ × List PendingRequest)). RequestFacts S K.start drawn begun old (r.trace ++ Taken n ∷ []) c.0 c.1.0 served r.given c.1.1) (λ i. (num i, (numbers i, waits i)))
        (facts_guess S K.start drawn begun old r.trace (last_guess K) v.desk.next served r.given waiting a.facts q n refl (ap Some one) refl refl))
        a.answers
        (let free = places_free v.desk 2 (none_later (no_number v.desk) (no_place v.desk 2) later) in
        let taken = used_guess K (next_guess K) p Input.Good in
        let more = asked_push v.desk.taken v.desk.waiting q in
        omega (arith, free, taken, more))

    -- ---- a question

    asks_on_it : (ask : Ask) → IsFor None ask → ReadyFor (table v.desk.kernel.scripts) v.desk.kernel.start its_state p ask → (get its_state (Proc p) ≡ None → ⊥) → asks_on (asked_name ask) (pending v.desk) ≡ false
        → rule_refused v.desk p (Rule.Asks ask) ≡ None → Now (record v { desk = turned v.desk p (Rule.Asks ask) })
    asks_on_it ask kind ready there free h =
        let S = table K.scripts in
        let a = r.all in
        let q = request_of v.desk p ask None in
        let served = r.given ++ law_served v.desk.taken v.replies in
        let waiting = unanswered v.desk.taken v.replies ++ v.desk.waiting in
        let numbers : suc v.desk.next ≡ v.desk.next + 1 = omega arith in
        let waits = append_assoc (unanswered v.desk.taken v.replies) v.desk.waiting (q ∷ []) in
        let pends = append_assoc v.desk.taken v.desk.waiting (q ∷ []) in
        reached_by drawn begun old xs _ r.trace r.given r.answered a.tidy a.traced (subst AreFor pends (more_for (pending v.desk) q a.kinds kind))
        (subst (λ (c : List PendingRequest × List PendingRequest). Invariant S K.start r.trace (last_guess K) served r.given c.0 c.1 v.server.refused) (λ i. (pends i, waits i))
        (inv_ask S K.start (is_table K.scripts) r.trace (last_guess K) served r.given (pending v.desk) waiting v.server.refused q a.holds refl
        (made_seen r.trace K a.traced q refl refl) ready there
        (λ o o_in asked. ((λ same. not_its (pending v.desk) p none o o_in asked (sym same)), λ same. not_on (pending v.desk) (asked_name ask) free o o_in asked (sym same)))))
        (subst (λ (c : ℕ × List PendingRequest). RequestFacts S K.start drawn begun old r.trace (last_guess K) c.0 served r.given c.1) (λ i. (numbers i, waits i))
        (facts_ask S K.start drawn begun old r.trace (last_guess K) v.desk.next served r.given waiting a.facts q refl))
        a.answers
        (let places = places_free v.desk 1 (none_later (no_number v.desk) (no_place v.desk 1) h) in
        let more = asked_push v.desk.taken v.desk.waiting q in
        omega (arith, places, more))

  -- ---- a turn

  module _ (turn : Told) (new : DeskView) where
    by_rule : (rule : Rule) → RulePost (Ok turn) v.desk p rule new → (rule_refused v.desk p rule ≡ None → Now (record v { desk = turned v.desk p rule })) → Now (record v { desk = new })
    by_rule rule h make = subst (λ (d : DeskView). Now (record v { desk = d })) (sym h.2) (make h.0)

    module _ (none : asks_for p (pending v.desk) ≡ false) where
      -- a kept answer is used first
      by_kept : (t : Result Next Refusal) → does_next ≡ t → IsClear (pending v.desk) t → (t ≡ Ok Next.Signal → ⊥) → (rule : Rule) → (RulePost (Ok turn) v.desk p rule new → Now (record v { desk = new }))
          → (kept : Option Input) → kept_for p v.desk.kept ≡ kept → RulePost (Ok turn) v.desk p (unless_kept kept rule) new → Now (record v { desk = new })
      by_kept t is clear due rule make (Some input) has h = by_rule (Rule.Steps input) h (steps_on none t is clear input (no_good v.desk.kept r.all.answers p input has) (λ at. absurd (due at)))
      by_kept t is clear due rule make None has h = make h

      by_none : (t : Result Next Refusal) → does_next ≡ t → IsClear (pending v.desk) t → RulePost (Ok turn) v.desk p (Rule.Steps Input.None) new → Now (record v { desk = new })
      by_none t is clear h = by_rule (Rule.Steps Input.None) h (steps_on none t is clear Input.None (λ good. cc) (λ _. refl))

      by_fetch : (name : Bytes) → does_next ≡ Ok (Next.Fetch name) → asks_on name (pending v.desk) ≡ false → (version : Option ℕ) → version_of (get its_state (CopyOf name)) ≡ version
          → RulePost (Ok turn) v.desk p (fetch_rule name version) new → Now (record v { desk = new })
      by_fetch name is free (Some ver) at h =
          by_rule (Rule.Guesses (Ask.Check name ver)) h (guesses_on none (Ok (Next.Fetch name)) is free (Ask.Check name ver) tt (takes_checked K.scripts its_state p name ver (fetch_at K.scripts its_state p name is) at) (λ due. cc))
      by_fetch name is free None at h =
          by_rule (Rule.Asks (Ask.Get name)) h (asks_on_it none (Ok (Next.Fetch name)) is free (Ask.Get name) tt (λ c. takes_fresh K.scripts its_state p name c (fetch_at K.scripts its_state p name is)) (not_there K.scripts its_state p (Instruction.Fetch name) (fetch_at K.scripts its_state p name is)) free)

      module _ (name : Bytes) (is : does_next ≡ Ok (Next.Store name)) (free : asks_on name (pending v.desk) ≡ false) where
        store_good : (version : ℕ) → or_zero (version_of (get its_state (CopyOf name))) ≡ version → version < LAST_VERSION → Takes (table v.desk.kernel.scripts) its_state p (Ask.Store name version (buffer v.desk.kernel p)) Input.Good
        store_good version at less =
            let S = table K.scripts in
            subst (λ bytes. Takes S its_state p (Ask.Store name version bytes) Input.Good) (λ i. buffer_of (get (state_seen r.trace K r.all.traced i) (Proc p)))
            (takes_store K.scripts K.start r.all.tidy (record_of (kernel S) K.start r.trace) p name version is at less)

        store_asks : (version : ℕ) → or_zero (version_of (get its_state (CopyOf name))) ≡ version → RulePost (Ok turn) v.desk p (Rule.Asks (Ask.Store name version (buffer v.desk.kernel p))) new → Now (record v { desk = new })
        store_asks version at h =
            by_rule (Rule.Asks (Ask.Store name version (buffer v.desk.kernel p))) h (asks_on_it none (Ok (Next.Store name)) is free (Ask.Store name version (buffer v.desk.kernel p)) tt
            (store_good version at, λ c. takes_stale K.scripts its_state p name version (buffer K p) c (store_at K.scripts its_state p name is)) (not_there K.scripts its_state p (Instruction.Store name) (store_at K.scripts its_state p name is)) free)

        by_store : (version : Option ℕ) → version_of (get its_state (CopyOf name)) ≡ version → RulePost (Ok turn) v.desk p (store_rule name (buffer v.desk.kernel p) version) new → Now (record v { desk = new })
        by_store None at h = store_asks 0 (ap or_zero at) h
        by_store (Some ver) at h =
            elim (nat_lt ver LAST_VERSION) as (λ b. nat_lt ver LAST_VERSION ≡ b → RulePost (Ok turn) v.desk p (cond b (Rule.Guesses (Ask.Store name ver (buffer v.desk.kernel p))) (Rule.Asks (Ask.Store name ver (buffer v.desk.kernel p)))) new → Now (record v { desk = new })) [
              | true ↦ λ less h. by_rule (Rule.Guesses (Ask.Store name ver (buffer v.desk.kernel p))) h
                  (guesses_on none (Ok (Next.Store name)) is free (Ask.Store name ver (buffer v.desk.kernel p)) tt (store_good ver (ap or_zero at) (ltb-true ver LAST_VERSION less)) (λ due. cc))
              | false ↦ λ _ h. store_asks ver (ap or_zero at) h
            ] refl h

      cached_seen : (name : Bytes) → version_of (get its_state (CopyOf name)) ≡ cached v.desk.kernel name
      cached_seen name = λ i. version_of (get (state_seen r.trace K r.all.traced i) (CopyOf name))

      by_name : (name : Bytes) (rule : Rule) → (asks_on name (pending v.desk) ≡ false → RulePost (Ok turn) v.desk p rule new → Now (record v { desk = new }))
          → ByRule (Ok turn) v.desk p new (cond (asks_on name (pending v.desk)) (Err Blocked) (Ok rule)) → Now (record v { desk = new })
      by_name name rule make h =
          elim (asks_on name (pending v.desk)) as (λ b. asks_on name (pending v.desk) ≡ b → ByRule (Ok turn) v.desk p new (cond b (Err Blocked) (Ok rule)) → Now (record v { desk = new })) [
            | true ↦ λ _ h. absurd (let bad : Ok turn ≡ Err Blocked = h.0 in cc)
            | false ↦ λ free h. make free h
          ] refl h

      by_next : (n : Next) → does_next ≡ Ok n → ByRule (Ok turn) v.desk p new (rule_next v.desk p n) → Now (record v { desk = new })
      by_next Next.Signal is h = by_none (Ok Next.Signal) is tt h
      by_next (Next.Fetch name) is h =
          by_name name (unless_kept (kept_for p v.desk.kept) (fetch_rule name (cached K name))) (λ free. by_kept (Ok (Next.Fetch name)) is free (λ due. cc) (fetch_rule name (cached K name)) (by_fetch name is free (cached K name) (cached_seen name)) (kept_for p v.desk.kept) refl) h
      by_next (Next.Store name) is h =
          by_name name (unless_kept (kept_for p v.desk.kept) (store_rule name (buffer K p) (cached K name))) (λ free. by_kept (Ok (Next.Store name)) is free (λ due. cc) (store_rule name (buffer K p) (cached K name)) (by_store name is free (cached K name) (cached_seen name)) (kept_for p v.desk.kept) refl) h
      by_next n is h = by_kept (Ok n) is tt (λ due. cc) (Rule.Steps Input.None) (by_none (Ok n) is tt) (kept_for p v.desk.kept) refl h

    by_result : (n : Result Next Refusal) → does_next ≡ n → ByRule (Ok turn) v.desk p new (rule_of v.desk p n) → Now (record v { desk = new })
    by_result (Err why) is h = absurd (let bad : Ok turn ≡ Err why = h.0 in cc)
    by_result (Ok n) is h =
        elim (asks_for p (pending v.desk)) as (λ b. asks_for p (pending v.desk) ≡ b → ByRule (Ok turn) v.desk p new (cond b (Err Blocked) (rule_next v.desk p n)) → Now (record v { desk = new })) [
          | true ↦ λ _ h. absurd (let bad : Ok turn ≡ Err Blocked = h.0 in cc)
          | false ↦ λ none h. by_next none n is h
        ] refl h

    pub turn_keeps : TurnPost (Ok turn) v.desk p new → Reached drawn begun old xs (record v { desk = new })
    turn_keeps h =
        let n = next_of (get (state_at K)) K.scripts p in
        by_result n (λ i. next_of (get (state_seen r.trace K r.all.traced i)) K.scripts p)
        (subst (ByRule (Ok turn) v.desk p new) (rule_full v.desk p (no_room (state_at K) (effect_at K (entry p Input.None None))) n) h)

-- ======== A reply keeps all that holds of a world, and the step of an asked request is accepted.

-- an asked request has a place of the trace
asked_one : (q : PendingRequest) (qs : List PendingRequest) → q.guess ≡ None → asked_count (q ∷ qs) ≡ asked_count qs + 1
asked_one q qs none = ap (λ b. length (cond b (q ∷ filter is_asked qs) (filter is_asked qs))) (ap is_none none) ∙ (let one : suc (asked_count qs) ≡ asked_count qs + 1 = omega arith in one)

module _ (drawn begun : ℕ) (old : World) (xs : Exchanges) (v : WorldView) (q : PendingRequest) (later : List PendingRequest) (number : ℕ) (rs : List Reply) where
  abbrev now : KernelView
  now = v.desk.kernel

  -- what is without a reply behind this one, and what is unanswered
  abbrev pub rest : List PendingRequest
  rest = later ++ v.desk.waiting

  abbrev pub unserved : List PendingRequest
  unserved = unanswered later rs ++ v.desk.waiting

  -- the reply to the oldest request comes next
  abbrev pub ComesNext : Answer → Type 0
  ComesNext a = Reached drawn begun old xs (record v { desk = record v.desk { taken = q ∷ later }; replies = record { number = number; answer = a } ∷ rs })
      × (fits_ask q.ask a ≡ true)

  module _ (a : Answer) (c : ComesNext a) where
    abbrev there : Contains (c.0.given ++ (q, a) ∷ law_served later rs) (q, a)
    there = Contains-append_right c.0.given ((q, a) ∷ law_served later rs) (q, a) (cons_first (q, a) (law_served later rs))

    -- a request that was not dropped depends on no lost guess
    pub whole : (a ≡ Dropped → ⊥) → is_void v.desk.kernel q ≡ true → ⊥
    whole kept void =
        not_void (table now.scripts) now.start c.0.trace (last_guess now) (c.0.given ++ (q, a) ∷ law_served later rs) c.0.given (q ∷ rest) unserved v.server.refused c.0.all.holds (q, a) there kept
        (void_seen c.0.trace now c.0.all.traced q ∙ void)

    -- the step of an asked request
    pub asked_ready : q.guess ≡ None → law_void (table v.desk.kernel.scripts) v.desk.kernel.start c.0.trace q ≡ false → Ready (table v.desk.kernel.scripts) v.desk.kernel.start (record_of (kernel (table v.desk.kernel.scripts)) v.desk.kernel.start c.0.trace) (undecided (table v.desk.kernel.scripts) v.desk.kernel.start c.0.trace) q
    asked_ready none sound = elim (c.0.all.holds.asked q (cons_first q rest) none) [
      | inl void ↦ absurd (true≢false (sym (any_of (law_lost (table now.scripts) now.start c.0.trace) q.rests void.0 void.1 void.3) ∙ sound))
      | inr ready ↦ ready
    ]

    module _ (none : q.guess ≡ None) (x : Input) (gives : input_of a ≡ Some x) where
      sound : law_void (table v.desk.kernel.scripts) v.desk.kernel.start c.0.trace q ≡ false
      sound = void_seen c.0.trace now c.0.all.traced q ∙ false_from_ne_true _ (whole (never_dropped a x gives))

      takes : Takes (table v.desk.kernel.scripts) (state (table v.desk.kernel.scripts) v.desk.kernel.start c.0.trace) q.process q.ask x
      takes =
          takes_by (table now.scripts) now.start (state (table now.scripts) now.start c.0.trace) q.process q.ask a x (subst (λ g. IsFor g q.ask) none c.0.all.kinds.0) c.1 (asked_ready none sound).step gives
          (c.0.all.holds.answers (q, a) there).fits

      -- the kernel takes it
      pub accepted : step_refused v.desk.kernel (entry q.process x None) ≡ None
      accepted =
          let e = entry q.process x None in
          let does : effect_at now e ≡ Ok takes.effect = sym (does_seen c.0.trace now c.0.all.traced q.process x) ∙ takes.accepted in
          let free = reply_free now q.process x (given_reply a x gives) (effect_at now e) refl in
          let was : used v.desk.kernel + asked_count (q ∷ rest) ≤ v.desk.kernel.limit = c.0.all.room in
          let more = asked_one q rest none in
          let full : trace_full now 1 ≡ None = ap (λ b. cond b (Some TraceFull) None) (le-ltb (room now) 1 (omega (arith, was, more))) in
          (λ i. or_else (or_else (refusal_of (does i)) (free i)) (full i))

  -- ---- what the reply leaves

  -- the trace is es then, of this kernel, with these kept answers
  module _ (a : Answer) (c : ComesNext a) (k : KernelView) (es : List (Event Caused)) (kept : List KeptAnswer) where
    finish : IsTidyState k.start → Traced es k
        → ((x : Input) → input_of a ≡ Some x → q.guess ≡ None → HasStep (table k.scripts) k.start (record_of (kernel (table k.scripts)) k.start es) q x)
        → Invariant (table k.scripts) k.start es (last_guess k) (c.0.given ++ (q, a) ∷ law_served later rs) c.0.given rest unserved v.server.refused
        → RequestFacts (table k.scripts) k.start drawn begun old es (last_guess k) v.desk.next (c.0.given ++ (q, a) ∷ law_served later rs) (c.0.given ++ (q, a) ∷ []) unserved
        → NoGood kept → used k + asked_count rest ≤ k.limit
        → Reached drawn begun old xs (record v { desk = record v.desk { kernel = k; kept = kept; taken = later }; replies = rs })
    finish tidy traced stands holds facts answers room =
        let S = table k.scripts in
        let same = sym (append_assoc c.0.given ((q, a) ∷ []) (law_served later rs)) in
        reached_by drawn begun old xs _ es (c.0.given ++ (q, a) ∷ []) (ap (map exchange_of) (sym same) ∙ c.0.answered) tidy traced c.0.all.kinds.1
        (subst (λ served_now. Invariant S k.start es (last_guess k) served_now (c.0.given ++ (q, a) ∷ []) rest unserved v.server.refused) same
        (inv_done S k.start (is_table k.scripts) es (last_guess k) (c.0.given ++ (q, a) ∷ law_served later rs) c.0.given rest unserved v.server.refused (q, a)
        (Contains-append_right c.0.given ((q, a) ∷ law_served later rs) (q, a) (cons_first (q, a) (law_served later rs))) stands holds))
        (subst (λ served_now. RequestFacts S k.start drawn begun old es (last_guess k) v.desk.next served_now (c.0.given ++ (q, a) ∷ []) unserved) same facts) answers room

  -- the request is no longer pending
  module _ (a : Answer) (c : ComesNext a) where
    abbrev served_now : List Served
    served_now = c.0.given ++ (q, a) ∷ law_served later rs

    left : Invariant (table v.desk.kernel.scripts) v.desk.kernel.start c.0.trace (last_guess v.desk.kernel) served_now c.0.given rest unserved v.server.refused
    left = inv_drop (table now.scripts) now.start (is_table now.scripts) c.0.trace (last_guess now) served_now c.0.given rest unserved v.server.refused q c.0.all.holds

    fewer : used v.desk.kernel + asked_count rest ≤ v.desk.kernel.limit
    fewer = (let was : used v.desk.kernel + asked_count (q ∷ rest) ≤ v.desk.kernel.limit = c.0.all.room in let more = asked_more (q ∷ []) rest in omega (arith, was, more))

    -- a reply that leaves the kernel as it is
    unchanged : ((x : Input) → input_of a ≡ Some x → q.guess ≡ None → ⊥) → ((g : ℕ) → a ≡ Yes → q.guess ≡ Some g → Contains c.0.trace (Commit g))
        → Reached drawn begun old xs (record v { desk = record v.desk { taken = later }; replies = rs })
    unchanged never committed =
        finish a c now c.0.trace v.desk.kept c.0.all.tidy c.0.all.traced (λ x gives asks. absurd (never x gives asks)) left
        (facts_none (table now.scripts) now.start drawn begun old c.0.trace (last_guess now) v.desk.next served_now c.0.given unserved c.0.all.facts (q, a) committed) c.0.all.answers fewer

    -- ---- of a guess

    module _ (g : ℕ) (its : q.guess ≡ Some g) (here : has g (undecided_at v.desk.kernel) ≡ true) where
      abbrev pub kept_then : List KeptAnswer
      kept_then = kept_after q.process (answer_kept q.ask a) v.desk.kept

      answers_then : NoGood kept_then
      answers_then = keeps_input v.desk.kept c.0.all.answers q.process (answer_kept q.ask a) (never_good q.ask a)

      opens : has g (undecided (table v.desk.kernel.scripts) v.desk.kernel.start c.0.trace) ≡ true
      opens = ap (has g) (undecided_seen c.0.trace now c.0.all.traced) ∙ here

      commits : a ≡ Yes → Reached drawn begun old xs (record v { desk = record v.desk { kernel = with_event v.desk.kernel (Logged.Commit g); kept = kept_then; taken = later }; replies = rs })
      commits says =
          let S = table now.scripts in
          let k = with_event now (Logged.Commit g) in
          let es = c.0.trace ++ Commit g ∷ [] in
          let more = sym (last_more now (Logged.Commit g)) in
          finish a c k es kept_then c.0.all.tidy (traced_commit c.0.trace now c.0.all.traced g here) (λ x _ asks. absurd (no_guess q.guess g asks its))
          (subst (λ d. Invariant S now.start es d served_now c.0.given rest unserved v.server.refused) more
          (inv_commit S now.start (is_table now.scripts) c.0.trace (last_guess now) served_now c.0.given rest unserved v.server.refused g left opens))
          (subst (λ d. RequestFacts S now.start drawn begun old es d v.desk.next served_now (c.0.given ++ (q, a) ∷ []) unserved) more
          (subst (λ b. RequestFacts S now.start drawn begun old es (last_guess now) v.desk.next served_now (c.0.given ++ (q, b) ∷ []) unserved) (sym says)
          (facts_commit S now.start drawn begun old c.0.trace (last_guess now) v.desk.next served_now c.0.given unserved c.0.all.facts q g its)))
          answers_then
          (let less = used_commit now g here in let was = fewer in omega (arith, less, was))

      fails : is_accepted a ≡ false → (a ≡ Yes → ⊥) → Reached drawn begun old xs (record v { desk = record v.desk { kernel = with_event v.desk.kernel (Logged.Fail g); kept = kept_then; taken = later }; replies = rs })
      fails bad no_yes =
          let S = table now.scripts in
          let k = with_event now (Logged.Fail g) in
          let es = c.0.trace ++ Fail g ∷ [] in
          let more = sym (last_more now (Logged.Fail g)) in
          let refused : left.bad g ≡ true = ((left.answers (q, a) (there a c)).own g its).3 ∙ ap not bad in
          finish a c k es kept_then c.0.all.tidy (traced_fail c.0.trace now c.0.all.traced g here) (λ x _ asks. absurd (no_guess q.guess g asks its))
          (subst (λ d. Invariant S now.start es d served_now c.0.given rest unserved v.server.refused) more
          (inv_fail S now.start (is_table now.scripts) c.0.trace (last_guess now) served_now c.0.given rest unserved v.server.refused g left refused opens))
          (subst (λ d. RequestFacts S now.start drawn begun old es d v.desk.next served_now (c.0.given ++ (q, a) ∷ []) unserved) more
          (facts_fail S now.start drawn begun old c.0.trace (last_guess now) v.desk.next served_now c.0.given unserved c.0.all.facts (q, a) g no_yes))
          answers_then
          (let less = used_fail now c.0.all.traced.sound g here in let was = fewer in omega (arith, less, was))

    -- ---- of a question

    module _ (none : q.guess ≡ None) (x : Input) (gives : input_of a ≡ Some x) where
      steps : Reached drawn begun old xs (record v { desk = record v.desk { kernel = with_event v.desk.kernel (Logged.Step q.process x); taken = later }; replies = rs })
      steps =
          let S = table now.scripts in
          let G = kernel S in
          let ns = record_of G now.start c.0.trace in
          let us = undecided S now.start c.0.trace in
          let n = asked_entry q x in
          let es = c.0.trace ++ Taken n ∷ [] in
          let k = with_event now (Logged.Step q.process x) in
          let t = takes a c none x gives in
          let ready = asked_ready a c none (sound a c none x gives) in
          let more = sym (last_more now (Logged.Step q.process x)) in
          let same : (o : PendingRequest) → n.cause ≡ For o → q ≡ o = λ o cause. (let both : For q ≡ For o = cause in cc) in
          finish a c k es v.desk.kept c.0.all.tidy
          (traced_step c.0.trace now c.0.all.traced q.process x n t.effect refl (sym (does_seen c.0.trace now c.0.all.traced q.process x) ∙ t.accepted))
          (λ y gives_y _. (
            n,
            subst (λ ns. Contains ns n) (sym (record_more G now.start c.0.trace (Taken n))) (Contains-push ns n),
            refl,
            (let both : Some x ≡ Some y = sym gives ∙ gives_y in cc),
          ))
          (subst (λ d. Invariant S now.start es d served_now c.0.given rest unserved v.server.refused) more
          (inv_plain S now.start (is_table now.scripts) c.0.trace (last_guess now) served_now c.0.given rest unserved v.server.refused n t.effect left t.accepted refl
          (λ y there hits o cause.
          subst (λ (o : PendingRequest). (has y o.rests ≡ true) ⊎ (o.guess ≡ Some y)) (same o cause)
          (elim (tags_of_step S now.start (is_table now.scripts) ns us q.process (asked_name q.ask) q.rests None t.effect t.reads t.writes ready.covers y (inl there) hits) [ inl carries ↦ inl carries | inr none ↦ cc ]))
          (λ o cause. ap (λ (o : PendingRequest). o.process) (same o cause))
          (λ o cause good. subst (λ (o : PendingRequest). Sets S o.ask Good t.effect.written) (same o cause) (subst (λ x. Sets S q.ask x t.effect.written) good t.sets))
          (λ o there o_asks _.
          let own = c.0.all.holds.apart.0 o there none o_asks in (
            λ writes. elim (t.writes (S.proc o.process) writes) [ inl same ↦ own.0 (sym ((is_table now.scripts).processes o.process q.process same)) | inr copies ↦ (is_table now.scripts).apart o.process (asked_name q.ask) copies ],
            λ writes. elim (t.writes (S.copy (asked_name o.ask)) writes) [ inl process ↦ (is_table now.scripts).apart q.process (asked_name o.ask) (sym process) | inr same ↦ own.1 (sym ((is_table now.scripts).copies (asked_name o.ask) (asked_name q.ask) same)) ],
          ))))
          (subst (λ d. RequestFacts S now.start drawn begun old es d v.desk.next served_now (c.0.given ++ (q, a) ∷ []) unserved) more
          (facts_step S now.start drawn begun old c.0.trace (last_guess now) v.desk.next served_now c.0.given unserved c.0.all.facts q a (law_served later rs) n refl refl refl none gives))
          c.0.all.answers
          (let taken = used_step now q.process x in let was : used v.desk.kernel + asked_count (q ∷ rest) ≤ v.desk.kernel.limit = c.0.all.room in let one = asked_one q rest none in omega (arith, taken, was, one))

  -- ---- the reply

  by_guess : (a : Answer) → ComesNext a → (g : ℕ) → q.guess ≡ Some g → has g (undecided_at v.desk.kernel) ≡ true
      → Reached drawn begun old xs (record v { desk = decided (record v.desk { taken = later }) q g a; replies = rs })
  by_guess Yes c g its here = commits Yes c g its here refl
  by_guess (No content) c g its here = fails (No content) c g its here refl (λ is. cc)
  by_guess (Copy content) c g its here = absurd (not_copied q.ask content g (subst (λ o. IsFor o q.ask) its c.0.all.kinds.0) c.1)
  by_guess Dropped c g its here = fails Dropped c g its here refl (λ is. cc)

  -- a guess that was accepted and is decided has committed
  committed : (a : Answer) (c : ComesNext a) (g : ℕ) → q.guess ≡ Some g → has g (undecided_at v.desk.kernel) ≡ false → a ≡ Yes → Contains c.0.trace (Commit g)
  committed a c g its shut says =
      let S = table now.scripts in
      let s = (c.0.all.holds.answers (q, a) (there a c)).own g its in
      elim (cases_Bool (list_any (is_commit g) c.0.trace)) [
        | inl done ↦ (has_commit c.0.trace g).0 done
        | inr none ↦
            let lost : law_lost S now.start c.0.trace g ≡ true = (λ j. not ((ap (has g) (undecided_seen c.0.trace now c.0.all.traced) ∙ shut) j) && not (none j)) in
            absurd (good_open S now.start c.0.trace (last_guess now) (c.0.given ++ (q, a) ∷ law_served later rs) c.0.given (q ∷ rest) unserved v.server.refused c.0.all.holds g s.0 s.1 (s.3 ∙ ap (λ a. not (is_accepted a)) says) lost)
      ]

  by_input : (a : Answer) (c : ComesNext a) → q.guess ≡ None → is_void v.desk.kernel q ≡ false → (o : Option Input) → input_of a ≡ o
      → Reached drawn begun old xs (record v { desk = answered (record v.desk { taken = later }) q o; replies = rs })
  by_input a c asks _ None gives = unchanged a c (λ x gives_x _. (let both : None ≡ Some x = sym gives ∙ gives_x in cc)) (λ g _ its. absurd (no_guess q.guess g asks its))
  by_input a c asks _ (Some x) gives =
      subst (λ (o : Option Refusal). Reached drawn begun old xs (record v { desk = record v.desk { kernel = stepped now q.process x o; taken = later }; replies = rs })) (sym (accepted a c asks x gives)) (steps a c asks x gives)

  pub given_keeps : (a : Answer) → ComesNext a → (o : Option ℕ) → q.guess ≡ o → Reached drawn begun old xs (record v { desk = given_to (record v.desk { taken = later }) q a o; replies = rs })
  given_keeps a c (Some g) its =
      elim (has g (undecided_at now)) as (λ b. has g (undecided_at now) ≡ b → Reached drawn begun old xs (record v { desk = cond b (decided (record v.desk { taken = later }) q g a) (record v.desk { taken = later }); replies = rs })) [
        | true ↦ λ here. by_guess a c g its here
        | false ↦ λ shut. unchanged a c (λ x _ asks. no_guess q.guess g asks its)
            (λ h says is. (let both : Some g ≡ Some h = sym its ∙ is in let one : g ≡ h = cc in subst (λ h. Contains c.0.trace (Commit h)) one (committed a c g its shut says)))
      ] refl
  given_keeps a c None asks =
      elim (is_void now q) as (λ b. is_void now q ≡ b → Reached drawn begun old xs (record v { desk = cond b (record v.desk { taken = later }) (answered (record v.desk { taken = later }) q (input_of a)); replies = rs })) [
        | true ↦ λ void. unchanged a c (λ x gives _. whole a c (never_dropped a x gives) void) (λ g _ its. absurd (no_guess q.guess g asks its))
        | false ↦ λ sound. by_input a c asks sound (input_of a) refl
      ] refl

-- ---- the oldest reply

module _ (drawn begun : ℕ) (old : World) (xs : Exchanges) (v : WorldView) (r : Reached drawn begun old xs v) (p : Reply) (rs : List Reply) (is : v.replies ≡ p ∷ rs) (o : Oldest v.desk p rs v.back) where
  pub comes : ComesNext drawn begun old xs v o.request o.later p.number rs p.answer
  comes = (subst (λ (w : WorldView). Reached drawn begun old xs w) (λ i. record v { desk = record v.desk { taken = o.taken i }; replies = is i }) r, o.fits)

  pub reply_keeps : (new : DeskView) → new ≡ given v.desk p v.desk.taken → Reached drawn begun old xs (record v { desk = new; replies = rs })
  reply_keeps new e =
      subst (λ (d : DeskView). Reached drawn begun old xs (record v { desk = d; replies = rs })) (sym (e ∙ ap (given v.desk p) o.taken))
      (given_keeps drawn begun old xs v o.request o.later p.number rs p.answer comes o.request.guess refl)

-- ======== Every event of a world keeps all that holds of it.

-- ---- each request that was taken has its reply

-- none is unanswered, and one more is, alone
pub record AllReplied (qs : List PendingRequest) (rs : List Reply) : Type 0 where
  pub none : unanswered qs rs ≡ []
  pub served : (q : PendingRequest) → law_served (qs ++ q ∷ []) rs ≡ law_served qs rs
  pub waits : (q : PendingRequest) → unanswered (qs ++ q ∷ []) rs ≡ q ∷ []

all_replied : (qs : List PendingRequest) (rs : List Reply) → AreReplies rs None qs → AllReplied qs rs
all_replied [] [] h = record { none = refl; served = λ q. refl; waits = λ q. refl }
all_replied (x ∷ xs) (r ∷ rs) h =
    let rest = all_replied xs rs h.2 in
    record { none = rest.none; served = λ q. ap (λ ys. (x, r.answer) ∷ ys) (rest.served q); waits = rest.waits }
all_replied qs rs h = absurd h

-- ---- but for the last, which was handed back

pub record Last (qs : List PendingRequest) (rs : List Reply) (b : Sent) : Type 0 where
  pub request : PendingRequest
  pub sent_so : b ≡ sent request
  pub alone : unanswered qs rs ≡ request ∷ []
  pub served : (r : Reply) → law_served qs (rs ++ r ∷ []) ≡ law_served qs rs ++ (request, r.answer) ∷ []
  pub none : (r : Reply) → unanswered qs (rs ++ r ∷ []) ≡ []

pub last_of : (qs : List PendingRequest) (rs : List Reply) (b : Sent) → AreReplies rs (Some b) qs → Last qs rs b
last_of [] [] b h = absurd h
last_of (q ∷ []) [] b h = record { request = q; sent_so = h; alone = refl; served = λ r. refl; none = λ r. refl }
last_of (q ∷ qs) (r ∷ rs) b h =
    let l = last_of qs rs b h.2 in
    record { request = l.request; sent_so = l.sent_so; alone = l.alone; served = λ s. ap (λ ys. (q, r.answer) ∷ ys) (l.served s); none = l.none }
last_of qs rs b h = absurd h

module _ (drawn begun : ℕ) (old : World) (xs : Exchanges) (v : WorldView) (r : Reached drawn begun old xs v) where
  -- ---- a request is taken

  taking : (q : PendingRequest) (qs : List PendingRequest) → v.desk.waiting ≡ q ∷ qs → AreReplies v.replies None v.desk.taken
      → Reached drawn begun old xs (record v { desk = first_taken v.desk (q ∷ qs); back = Some (sent q) })
  taking q qs is replies =
      let K = v.desk.kernel in
      let S = table K.scripts in
      let a = r.all in
      let full = all_replied v.desk.taken v.replies replies in
      let same = sym (full.served q) in
      let waits : unanswered v.desk.taken v.replies ++ v.desk.waiting ≡ unanswered (v.desk.taken ++ q ∷ []) v.replies ++ qs =
      (λ i. full.none i ++ is i) ∙ (λ i. sym (full.waits q) i ++ qs) in
      let pends : pending v.desk ≡ (v.desk.taken ++ q ∷ []) ++ qs = ap (λ ws. v.desk.taken ++ ws) is ∙ sym (append_assoc v.desk.taken (q ∷ []) qs) in
      reached_by drawn begun old xs _ r.trace r.given (ap (λ ys. map exchange_of (r.given ++ ys)) (sym same) ∙ r.answered) a.tidy a.traced (subst AreFor pends a.kinds)
      (subst (λ (c : List Served × (List PendingRequest × List PendingRequest)). Invariant S K.start r.trace (last_guess K) (r.given ++ c.0) r.given c.1.0 c.1.1 v.server.refused) (λ i. (same i, (pends i, waits i))) a.holds)
      (subst (λ (c : List Served × List PendingRequest). RequestFacts S K.start drawn begun old r.trace (last_guess K) v.desk.next (r.given ++ c.0) r.given c.1) (λ i. (same i, waits i)) a.facts)
      a.answers
      (subst (λ qs. used K + asked_count qs ≤ K.limit) pends a.room)

  taken_keeps : (qs : List PendingRequest) → v.desk.waiting ≡ qs → AreReplies v.replies None v.desk.taken → Reached drawn begun old xs (taken_from v qs)
  taken_keeps [] is replies = r
  taken_keeps (q ∷ qs) is replies = taking q qs is replies

  -- ---- the answer

  module _ (b : Sent) (l : Last v.desk.taken v.replies b) where
    serving : Reached drawn begun old (xs ++ (sent l.request, reply_to v.server (sent l.request)) ∷ []) (served v (sent l.request))
    serving =
        let q = l.request in
        let K = v.desk.kernel in
        let S = table K.scripts in
        let a = r.all in
        let ans = answer_to v.server (sent q) in
        let new = served v (sent q) in
        let before = r.given ++ law_served v.desk.taken v.replies in
        let memory = new.server.refused in
        let waits : unanswered v.desk.taken v.replies ++ v.desk.waiting ≡ q ∷ v.desk.waiting = ap (λ ys. ys ++ v.desk.waiting) l.alone in
        let none : v.desk.waiting ≡ unanswered v.desk.taken (v.replies ++ reply_to v.server (sent q) ∷ []) ++ v.desk.waiting = ap (λ ys. ys ++ v.desk.waiting) (sym (l.none (reply_to v.server (sent q)))) in
        let all_so : before ++ (q, ans) ∷ [] ≡ r.given ++ law_served v.desk.taken (v.replies ++ reply_to v.server (sent q) ∷ []) =
        append_assoc r.given (law_served v.desk.taken v.replies) ((q, ans) ∷ [])
        ∙ ap (λ ys. r.given ++ ys) (sym (l.served (reply_to v.server (sent q)))) in
        let j : Invariant S K.start r.trace (last_guess K) before r.given (pending v.desk) (q ∷ v.desk.waiting) v.server.refused =
        subst (λ ws. Invariant S K.start r.trace (last_guess K) before r.given (pending v.desk) ws v.server.refused) waits a.holds in
        let here = j.queue.0 in
        let keeps : (y : ℕ) → has y (remembered (sent q) v.server.refused) ≡ true → has y memory ≡ true = λ y there. has_more y (remembered (sent q) v.server.refused) (marks (refused_by q.guess ans)) there in
        let joins : (g : ℕ) → q.guess ≡ Some g → is_accepted ans ≡ false → has g memory ≡ true =
        λ g its no_yes. has_right g (remembered (sent q) v.server.refused) (marks (refused_by q.guess ans)) (refused_there q.guess ans g its no_yes) in
        let after : Invariant S K.start r.trace (last_guess K) (before ++ (q, ans) ∷ []) r.given (pending v.desk) v.desk.waiting memory =
        elim q.guess as (λ o. q.guess ≡ o → Invariant S K.start r.trace (last_guess K) (before ++ (q, ans) ∷ []) r.given (pending v.desk) v.desk.waiting memory) [
          | None ↦ λ none.
              inv_answer S K.start (is_table K.scripts) r.trace (last_guess K) before r.given (pending v.desk) v.desk.waiting v.server.refused memory q ans j j.bad j.a
              (ap (λ o. counted o j.a) (sym none)) (omega arith) (λ y le. refl) (λ y le. inl le) (λ y h. inl h) (λ g its. absurd (no_guess q.guess g none its))
              (drops_not v.server q) keeps joins (yes_fits v.server q)
          | Some g ↦ λ some.
              let g_is : g ≡ suc j.a = (here.own g some).0 in
              let bad = at_number g (not (is_accepted ans)) j.bad in
              inv_answer S K.start (is_table K.scripts) r.trace (last_guess K) before r.given (pending v.desk) v.desk.waiting v.server.refused memory q ans j bad (suc j.a)
              (ap (λ o. counted o j.a) (sym some)) (omega arith)
              (λ y le. at_other g (not (is_accepted ans)) j.bad y (λ same. omega arith))
              (λ y le. elim (cases_eq y g) [ inl same ↦ inr (some ∙ ap Some (sym same)) | inr other ↦ inl (omega arith) ])
              (λ y h. elim (cases_eq y g) [ inl same ↦ inr (some ∙ ap Some (sym same)) | inr other ↦ inl (sym (at_other g (not (is_accepted ans)) j.bad y other) ∙ h) ])
              (λ h its. (let same : h ≡ g = (let both : Some g ≡ Some h = sym some ∙ its in cc) in (omega arith, ap bad same ∙ at_same g (not (is_accepted ans)) j.bad)))
              (drops_not v.server q) keeps joins (yes_fits v.server q)
        ] refl in
        reached_by drawn begun old _ _ r.trace r.given
        (ap (map exchange_of) (sym all_so)
        ∙ map-append exchange_of before ((q, ans) ∷ []) ∙ ap (λ ys. ys ++ exchange_of (q, ans) ∷ []) r.answered)
        a.tidy a.traced a.kinds
        (subst (λ (c : List Served × List PendingRequest). Invariant S K.start r.trace (last_guess K) c.0 r.given (pending v.desk) c.1 memory) (λ i. (all_so i, none i)) after)
        (subst (λ (c : List Served × List PendingRequest). RequestFacts S K.start drawn begun old r.trace (last_guess K) v.desk.next c.0 r.given c.1) (λ i. (all_so i, none i))
        (facts_serve S K.start drawn begun old r.trace (last_guess K) v.desk.next before r.given q ans v.desk.waiting
        (subst (λ ws. RequestFacts S K.start drawn begun old r.trace (last_guess K) v.desk.next before r.given ws) waits a.facts)))
        a.answers a.room

  pub serve_keeps : (b : Sent) → AreReplies v.replies (Some b) v.desk.taken → Reached drawn begun old (xs ++ (b, reply_to v.server b) ∷ []) (served v b)
  serve_keeps b replies =
      let l = last_of v.desk.taken v.replies b replies in
      subst (λ (q : Sent). Reached drawn begun old (xs ++ (q, reply_to v.server q) ∷ []) (served v q)) (sym l.sent_so)
      (serving b l)

-- the server's next request is the same after an edit
edited_next : (s : ServerView) (b : Option Sent) (d : DeskView) (name : Bytes) (version : ℕ) (bytes : Bytes) → IsNext s b d → IsNext (record s { files = written s.files name version bytes }) b d
edited_next s None d name version bytes h = h
edited_next s (Some b) d name version bytes h = h

module _ (drawn begun : ℕ) (old : World) where
  -- a world that these exchanges lead to, whose parts fit
  abbrev pub Comes : Exchanges → WorldView → Type 0
  Comes xs v = Reached drawn begun old xs v × IsJoined v.desk v.server v.replies v.back

  -- nothing was served
  none_served : (xs : Exchanges) (new : WorldView) → Comes xs new → Comes (xs ++ []) new
  none_served xs new on = subst (λ (ys : Exchanges). Comes ys new) (sym (append-nil xs)) on

  module _ (xs : Exchanges) (v : WorldView) (r : Comes xs v) where
    same : (new : WorldView) → new ≡ v → Comes xs new
    same new is = subst (λ (x : WorldView). Comes xs x) (sym is) r

    turns : (told : Result WorldAnswer Cause) (p : ℕ) (new : WorldView) → Turns told v p new → Comes xs new
    turns (Ok (WorldAnswer.Turn turn)) p new h =
        subst (λ (x : WorldView). Comes xs x) (sym h.1) (turn_keeps drawn begun old xs v r.0 p turn new.desk h.0, turn_joined v.server v.replies v.back v.desk new.desk p turn r.1 h.0)
    turns (Err (Cause.Turn why)) p new h = same new h.1
    turns told p new h = absurd h

    edits : (told : Result WorldAnswer Cause) (name : Bytes) (expected : ℕ) (bytes : Bytes) (new : WorldView) → EditsFile told v name expected bytes new → Comes xs new
    edits (Ok (WorldAnswer.Edited version)) name expected bytes new h =
        let all = r.0.all in
        subst (λ (x : WorldView). Comes xs x) (sym (h.1 ∙ ap (λ (s : ServerView). record v { server = s }) h.0.2)) (
          reached_by drawn begun old xs _ r.0.trace r.0.given r.0.answered all.tidy all.traced all.kinds all.holds all.facts all.answers all.room,
          record { replies = r.1.replies; next = edited_next v.server v.back v.desk name expected bytes r.1.next; last = r.1.last },
        )
    edits (Err (Cause.Edit why)) name expected bytes new h = same new h.1
    edits told name expected bytes new h = absurd h

    -- a request is taken
    took : (qs : List PendingRequest) → v.desk.waiting ≡ qs → v.back ≡ None → IsJoined (taken_from v qs).desk (taken_from v qs).server (taken_from v qs).replies (taken_from v qs).back
    took [] is none = r.1
    took (q ∷ qs) is none =
        taken_joined v.server v.replies v.desk q qs is (subst (λ (o : Option Sent). IsJoined v.desk v.server v.replies o) none r.1)

    took_any : (b : Option Sent) → v.back ≡ b → Comes xs (taken_by v b)
    took_any (Some q) is = r
    took_any None is = (taken_keeps drawn begun old xs v r.0 v.desk.waiting refl (subst (λ (o : Option Sent). IsJoined v.desk v.server v.replies o) is r.1).replies, took v.desk.waiting refl is)

    serves : (told : Result WorldAnswer Cause) (new : WorldView) (b : Option Sent) → v.back ≡ b → Serves told v new b → Comes (xs ++ exchange b told) new
    serves told new None is h = none_served xs new (same new h.1)
    serves (Ok x) new (Some b) is h =
        let before : IsJoined v.desk v.server v.replies (Some b) = subst (λ (o : Option Sent). IsJoined v.desk v.server v.replies o) is r.1 in
        subst (λ (y : WorldAnswer). Comes (xs ++ exchange (Some b) (Ok y)) new) (sym h.0)
        (subst (λ (y : WorldView). Comes (xs ++ (b, reply_to v.server b) ∷ []) y) (sym h.1)
        (serve_keeps drawn begun old xs v r.0 b before.replies, answer_joined v.desk v.server (served v b).server v.replies (served v b).replies b refl refl before))
    serves (Err why) new (Some b) is h = none_served xs new (same new h.1)

    replies : (told : Result WorldAnswer Cause) (new : WorldView) (rs : List Reply) → v.replies ≡ rs → Replies told v new rs → Comes xs new
    replies told new [] is h = same new h.1
    replies (Ok (WorldAnswer.Given told)) new (p ∷ rs) is h =
        let before : IsJoined v.desk v.server (p ∷ rs) v.back = subst (λ (ys : List Reply). IsJoined v.desk v.server ys v.back) is r.1 in
        subst (λ (x : WorldView). Comes xs x) (sym h.1)
        (reply_keeps drawn begun old xs v r.0 p rs is (oldest v.desk v.server p rs v.back before) new.desk h.0.2, given_joined v.desk new.desk v.server p rs v.back h.0.2 before)
    replies (Ok told) new (p ∷ rs) is h = absurd h
    replies (Err why) new (p ∷ rs) is h = same new h.2

  one_event : (xs : Exchanges) (v : WorldView) → Comes xs v → (told : Result WorldAnswer Cause) (e : WorldEvent) (new : WorldView) → EventPost told v e new → Comes (xs ++ exchanged told v e) new
  one_event xs v r told (WorldEvent.Turn p) new h = none_served xs new (turns xs v r told p new h)
  one_event xs v r told WorldEvent.Serve new h = let t = taken_by v v.back in serves xs t (took_any xs v r v.back refl) told new t.back refl h
  one_event xs v r told WorldEvent.Reply new h = none_served xs new (replies xs v r told new v.replies refl h)
  one_event xs v r told (WorldEvent.Edit name expected bytes) new h = none_served xs new (edits xs v r told name expected bytes new h)

  pub all_events : (xs : Exchanges) (v : WorldView) (es : List WorldEvent) (ys : Exchanges) (last : WorldView) → Comes xs v → Leads v es ys last → Comes (xs ++ ys) last
  all_events xs v [] ys last r h = subst (λ (zs : Exchanges). Comes (xs ++ zs) last) (sym h.0) (none_served xs last (subst (λ (x : WorldView). Comes xs x) (sym h.1) r))
  all_events xs v (e ∷ es) ys last r h =
      subst (λ (zs : Exchanges). Comes zs last) (append_assoc xs (exchanged h.0 v e) h.2 ∙ ap (λ zs. xs ++ zs) (sym h.5))
      (all_events (xs ++ exchanged h.0 v e) h.1 es h.2 last (one_event xs v r h.0 e h.1 h.3) h.4)
