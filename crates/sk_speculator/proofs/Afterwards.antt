-- The parts of a kernel after each call, and what they then are.
use Rattle.sk_speculator.proofs.Names.{without_none, ◌≡◌, ℕ, ◌<◌, ◌+◌, Bool, true, false, cond, ◌||◌, List, [], ◌∷◌}
use Rattle.sk_speculator.proofs.Names.{◌++◌, map, Option, Some, None, Ok, Err, inl, inr, refl, sym, ◌∙◌, ap, subst}
use Rattle.sk_speculator.proofs.Names.{arith, ◌==◌, IfSome, list_any, IsStrictlySortedBy, nat_cmp, Ordering}
use Rattle.sk_speculator.proofs.Names.{IsTotalOrder, Equal-is, IsAntisymmetric, empty, get-empty, or_assoc, true≢false}
use Rattle.sk_speculator.proofs.Names.{false≢true, eqb-true, eq-eqb, or_left, or_right, or_cases, or_parts}
use Rattle.sk_speculator.proofs.Names.{list_any-append, sorted_from_strictly_increasing, unwrap_or, MarkedEffect, is_in}
use Rattle.sk_speculator.proofs.Names.{is_marked, written_value, writes, marked_effect, said_by, Note, has, noted}
use Rattle.sk_speculator.proofs.Names.{last_tags, unwound, cut, committed, StatusIs, Taken, Commit, Fail, marks}
use Rattle.sk_speculator.proofs.Names.{all_recorded, no_record, Open, numbers, tags_at, step_tags, opened, still_open}
use Rattle.sk_speculator.proofs.Names.{not_struck, IsTidy, IsGrowing, Machine, Fails, lightened, not_dropped}
use Rattle.sk_speculator.proofs.Names.{with_status, with_drawn, with_failure, Merges, MergedTakes, MergedCommits}
use Rattle.sk_speculator.proofs.Names.{MergedStands, joined, Status, Undecided, Struck, union_is_tags, AllSome, tidy_of}
use Rattle.sk_speculator.proofs.Names.{grows_of, rests_of, no_tags, tags_by, with_tags, AllExact, Covers, with_entities}
use Rattle.sk_speculator.proofs.Names.{redeemed_at, KeptView, AreStatuses, known, none_drawn, redeemed_kept, keys_of}
use Rattle.sk_speculator.proofs.Names.{Token, OpenGuess, opens_of, open_in, open_is, carries, none_carried, uncut}
use Rattle.sk_speculator.proofs.Names.{exact_as, exact_more, begun, tags_written, Deed, Entry, effect_of, again, IsNext}
use Rattle.sk_speculator.proofs.Names.{with_told, told_more, untagged, takes_told, commits_told, fails_told}
use Rattle.sk_speculator.proofs.Names.{stands_told, performs, allowed, first, SlotView, look_at, log_at, merges, Said}
use Rattle.sk_speculator.proofs.Names.{said_at, Parts, undo_state_of, machine_of, any_rests, Performed, IsWhole}
use Rattle.sk_speculator.proofs.Names.{IsSound, IsSame, says, next_of, Takes, Commits, FailsIn, Forgets, IsStranger}
use Rattle.sk_speculator.proofs.Names.{Result, forgotten, without}
use Rattle.sk_record.specs.declared.status.Status.TheVariants as status_as
use Rattle.sk_record.proofs.Merged as merged
use Rattle.sk_guesses.specs.declared.guess.Redeemed.{Redeemed}
use Rattle.sk_guesses.specs.declared.guess.Redeemed.TheVariants as redeemed_as
use Rattle.sk_speculator.proofs.Saying.{says_at, lightened_at, dropped_at}

-- ---- tags
asked : {K V : Type 0} (look : K → Option V) (ks : List K) → map (λ (r : K × Option V). r.0) (map (λ k. (k, look k)) ks) ≡ ks
asked look [] = refl
asked look (k ∷ ks) = ap (λ xs. k ∷ xs) (asked look ks)

module _ {K V : Type 0} (R : K → K → Ordering) (exact : IsAntisymmetric R) where
  -- one of these keys depends on what it depends on
  pub any_of : (m : List (K × SlotView V)) (g : ℕ) (ks : List K) (q : K) → is_in R ks q ≡ true → has g (last_tags [] (log_at R m q)) ≡ true → any_rests R m g ks ≡ true
  any_of m g [] q here rests = absurd (true≢false (sym here))
  any_of m g (k ∷ ks) q here rests =
      elim (or_cases _ _ here) [
        | inl same ↦ or_left _ _ (ap (λ x. has g (last_tags [] (log_at R m x))) (sym (exact q k ((Equal-is (R q k)).0 same))) ∙ rests)
        | inr later ↦ or_right _ _ (any_of m g ks q later rests)
      ]

-- ---- logs that do not depend on a guess
noted_there : {V : Type 0} (tags : List ℕ) (v : Option V) (rest : List (Note V)) → (tags ≡ [] → ⊥) → noted true tags v rest ≡ record { tags = tags; before = v } ∷ rest
noted_there [] v rest some = absurd (some refl)
noted_there (t ∷ tags) v rest some = refl

uncommitted : {V : Type 0} (g : ℕ) (log : List (Note V)) → AllSome log → carries g log ≡ false → committed g log ≡ log
uncommitted g [] some none = refl
uncommitted g (n ∷ ns) some none =
    let parts = or_parts _ _ none in
    (λ i. noted true (without_none g n.tags parts.0 i) n.before (uncommitted g ns some.1 parts.1 i)) ∙ noted_there n.tags n.before ns some.0

unmoved : {V : Type 0} (g : ℕ) (log : List (Note V)) (now : Option V) → carries g log ≡ false → unwound g log now ≡ now
unmoved g [] now none = refl
unmoved g (n ∷ ns) now none = let parts = or_parts _ _ none in ap (λ b. cond b n.before (unwound g ns now)) parts.0 ∙ unmoved g ns now parts.1

-- a choice whose other is the same
kept_if : {A : Type 0} (b : Bool) (x y : A) → (b ≡ false → x ≡ y) → x ≡ cond b x y
kept_if true x y h = refl
kept_if false x y h = h refl

module _ {K V O : Type 0} {R : K → K → Ordering} (total : IsTotalOrder R) (exact : IsAntisymmetric R) (a : Parts K V O) where
  abbrev pub effect_is : Deed K V O → Option ℕ → MarkedEffect K V (ℕ × O)
  effect_is d mark = marked_effect (again R) mark (Ok (effect_of (look_at R a.slots) d))

  touched : (d : Deed K V O) (mark : Option ℕ) (g : ℕ) → list_any (λ k. has g (tags_at (undo_state_of R a) k)) (map (λ (r : K × Option V). r.0) (effect_is d mark).read ++ writes (effect_is d mark)) ≡ (any_rests R a.slots g d.looked || any_rests R a.slots g (keys_of d.written))
  touched d mark g =
      list_any-append (λ k. has g (tags_at (undo_state_of R a) k)) (map (λ (r : K × Option V). r.0) (effect_is d mark).read) (keys_of d.written)
      ∙ ap (λ ks. any_rests R a.slots g ks || any_rests R a.slots g (keys_of d.written)) (asked (look_at R a.slots) d.looked)

  -- the tags that were asked for are the step's
  pub tags_are : (d : Deed K V O) (mark : Option ℕ) (tags : List ℕ) → IsTidy (undo_state_of R a) → IsStrictlySortedBy nat_cmp (numbers a.opens ++ marks mark) → IsStrictlySortedBy nat_cmp tags
      → ((g : ℕ) → has g tags ≡ ((is_marked mark g || any_rests R a.slots g d.looked) || any_rests R a.slots g (keys_of d.written)))
      → tags ≡ step_tags (undo_state_of R a) (effect_is d mark)
  tags_are d mark tags tidy opens_rise rises members =
      union_is_tags (undo_state_of R a) (effect_is d mark) tidy tags opens_rise rises
      (λ g. members g ∙ or_assoc (is_marked mark g) (any_rests R a.slots g d.looked) (any_rests R a.slots g (keys_of d.written)) ∙ ap (λ b. is_marked mark g || b) (sym (touched d mark g)))

  -- of what is written without tags nothing is noted
  pub clean_at : (ks : List K) (tags : List ℕ) → IsTidy (undo_state_of R a) → ((g : ℕ) → any_rests R a.slots g ks ≡ true → has g tags ≡ true) → (q : K) → is_in R ks q ≡ true → tags ≡ [] → log_at R a.slots q ≡ []
  clean_at ks tags tidy all q here none =
      tidy.clean q (no_tags (last_tags [] (log_at R a.slots q)) (λ g rests. true≢false (sym (all g (any_of R exact a.slots g ks q here rests)) ∙ ap (has g) none)))

  -- what was performed on what is seen the same
  pub performed_same : (mid new : List (K × SlotView V)) (tags : List ℕ) (ws : List (K × Option V)) → ((q : K) → look_at R mid q ≡ look_at R a.slots q) → ((q : K) → log_at R mid q ≡ log_at R a.slots q) → Performed R mid tags ws new → Performed R a.slots tags ws new
  performed_same mid new tags ws look log did = record {
    look = λ q. did.look q ∙ ap (written_value R ws q) (look q);
    logs = λ q. subst (λ ns. Merges [] ns (log_at R new q)) (λ i. log q i ++ noted (is_in R (keys_of ws) q) tags (look q i) []) (did.logs q);
  }

  -- a step is taken as the machine takes it
  pub takes_so : (b : Parts K V O) (d : Deed K V O) (mark : Option ℕ) (tags : List ℕ) → tags ≡ step_tags (undo_state_of R a) (effect_is d mark)
      → Performed R a.slots tags d.written b.slots → b.opens ≡ a.opens ++ opened mark tags → b.said ≡ says d.said tags a.said
      → (status : ℕ → Option Status) → MergedTakes (again R) (machine_of R a status) (record { deed = d; guess = mark }) (machine_of R b (with_drawn mark status))
  takes_so b d mark tags is did opens said status = record {
    effect = effect_of (look_at R a.slots) d;
    accepted = performs (look_at R a.slots) d;
    look = did.look;
    logs = λ q. subst (λ ts. Merges [] (log_at R a.slots q ++ noted (is_in R (keys_of d.written) q) ts (look_at R a.slots q) []) (log_at R b.slots q)) is (did.logs q);
    opens = opens ∙ ap (λ ts. a.opens ++ opened mark ts) is;
    status = λ g. refl;
    texts = λ t. ap (λ xs. said_at xs t) said ∙ says_at V R t d.said tags a.said ∙ ap (λ ts. said_at a.said t ++ said_by (again {V = V} R) t d.said ts) is;
  }

  -- ---- what the parts are
  module _ (whole : IsWhole R a) where
    abbrev machine : Machine K V (ℕ × O)
    machine = with_told whole.told (machine_of R a whole.status)

    pub tidy : IsTidy (undo_state_of R a)
    tidy =
        merged.tidy_in whole.stands.full machine whole.stands.merged
        (tidy_of (again R) total exact whole.start (all_recorded (again R) whole.start no_record whole.events) whole.stands.full.state whole.stands.stands.state)

    pub grows : (k : K) → IsGrowing (log_at R a.slots k)
    grows k =
        merged.growing_in whole.stands.full machine whole.stands.merged k
        (grows_of (again R) total exact whole.start (all_recorded (again R) whole.start no_record whole.events) whole.stands.full.state whole.stands.stands.state k)

    rests : (k : K) → AllSome (log_at R a.slots k)
    rests k =
        merged.some_in [] (whole.stands.full.state.logs k) (log_at R a.slots k) (whole.stands.merged.logs k)
        (rests_of (again R) total exact whole.start (all_recorded (again R) whole.start no_record whole.events) whole.stands.full.state whole.stands.stands.state k)

    pub opens_rise : IsStrictlySortedBy nat_cmp (numbers a.opens)
    opens_rise = sorted_from_strictly_increasing (numbers a.opens) (merged.merged_run (again R) total exact whole.start whole.events machine whole.stands).rising

    status_is : (g : ℕ) → has g (numbers a.opens) ≡ true → StatusIs (again R) whole.start whole.events g Undecided
    status_is g here = ((merged.merged_run (again R) total exact whole.start whole.events machine whole.stands).statuses g Undecided).0 (open_is (whole.status g) (sym (whole.agrees.undecided g) ∙ here))

    -- nothing depends on a guess that is not undecided
    pub not_known : (g : ℕ) → has g (numbers a.opens) ≡ false → (k : K) → has g (tags_at (undo_state_of R a) k) ≡ false
    not_known g closed k =
        elim (has g (tags_at (undo_state_of R a) k)) as (λ b. has g (tags_at (undo_state_of R a) k) ≡ b → b ≡ false) [
          | true ↦ λ here. sym (tidy.known k g here) ∙ closed
          | false ↦ λ _. refl
        ] refl

    pub next_closed : has (next_of a.guesses) (numbers a.opens) ≡ false
    next_closed = whole.agrees.undecided (next_of a.guesses) ∙ ap open_in (whole.agrees.fresh (next_of a.guesses) (omega arith))

    pub whole_taken : (b : Parts K V O) (d : Deed K V O) (mark : Option ℕ) → ((g : ℕ) → mark ≡ Some g → a.guesses.drawn < g) → Takes R a d mark b → IsWhole R b
    whole_taken b d mark next t =
        let n : Entry K V O = record { deed = d; guess = mark } in
        let fresh : IsNext machine mark = λ g h is le. let above = next g is in whole.agrees.fresh h (omega (arith, above, le)) in
        record {
          start = whole.start;
          told = whole.told;
          events = whole.events ++ Taken n ∷ [];
          status = with_drawn mark whole.status;
          agrees = t.agrees whole.status whole.agrees;
          stands = merged.merged_taken (again R) total exact whole.start whole.events machine n (with_told whole.told (machine_of R b (with_drawn mark whole.status))) whole.stands
              (allowed (again R) total exact whole.start whole.events machine n whole.stands fresh)
              (takes_told whole.told (again R) (machine_of R a whole.status) n (machine_of R b (with_drawn mark whole.status)) (t.takes whole.status whole.agrees));
        }

    pub whole_committed : (b : Parts K V O) (g : ℕ) → Commits R a g b → IsWhole R b
    whole_committed b g t = record {
      start = whole.start;
      told = whole.told;
      events = whole.events ++ Commit g ∷ [];
      status = with_status g status_as.Committed whole.status;
      agrees = t.agrees whole.status whole.agrees;
      stands = merged.merged_committed (again R) total exact whole.start whole.events machine g (with_told whole.told (machine_of R b (with_status g status_as.Committed whole.status))) whole.stands (status_is g t.undecided)
          (commits_told whole.told (machine_of R a whole.status) g (machine_of R b (with_status g status_as.Committed whole.status)) (t.commits whole.status whole.agrees));
    }

    pub whole_failed : (b : Parts K V O) (g : ℕ) → FailsIn R a g b → IsWhole R b
    whole_failed b g t = record {
      start = whole.start;
      told = whole.told;
      events = whole.events ++ Fail g ∷ [];
      status = with_failure g a.opens whole.status;
      agrees = t.agrees whole.status whole.agrees;
      stands = merged.merged_failed (again R) total exact whole.start whole.events machine g (with_told whole.told (machine_of R b (with_failure g a.opens whole.status))) whole.stands (status_is g t.undecided)
          (fails_told whole.told (machine_of R a whole.status) g (machine_of R b (with_failure g a.opens whole.status)) (t.fails whole.status whole.agrees));
    }

    pub whole_same : (b : Parts K V O) → IsSame R a b → IsWhole R b
    whole_same b same = record {
      start = whole.start;
      told = whole.told;
      events = whole.events;
      status = whole.status;
      agrees = subst (λ v. AreStatuses v b.opens whole.status) (sym same.guesses) (subst (λ os. AreStatuses a.guesses os whole.status) (sym same.opens) whole.agrees);
      stands = record {
        full = whole.stands.full;
        stands = whole.stands.stands;
        merged = record {
          look = λ q. same.look q ∙ whole.stands.merged.look q;
          logs = λ q. subst (λ ns. Merges [] (whole.stands.full.state.logs q) ns) (sym (same.logs q)) (whole.stands.merged.logs q);
          opens = same.opens ∙ whole.stands.merged.opens;
          status = whole.stands.merged.status;
          texts = λ t. ap (λ xs. untagged (whole.told t) ++ said_at xs t) same.said ∙ whole.stands.merged.texts t;
        };
      };
    }

    -- a struck guess is forgotten
    pub whole_forgotten : (v : KeptView) → AreStatuses v a.opens whole.status → IsWhole R (record a { guesses = v })
    whole_forgotten v agrees = record { start = whole.start; told = whole.told; events = whole.events; status = whole.status; agrees = agrees; stands = whole.stands }

    -- ---- lists
    pub covers : (ks : List K) (tags : List ℕ) → ((g : ℕ) → any_rests R a.slots g ks ≡ true → has g tags ≡ true) → Covers R tags ks (tags_by (log_at R a.slots))
    covers ks tags all k g here rests = all g (any_of R exact a.slots g ks k here rests)

    pub exact_taken : (new : List (K × SlotView V)) (tags : List ℕ) (ws : List (K × Option V)) (lists : List (OpenGuess K)) → ((q : K) → is_in R (keys_of ws) q ≡ true → tags ≡ [] → log_at R a.slots q ≡ []) → Performed R a.slots tags ws new
        → AllExact R (with_tags R tags (keys_of ws) (tags_by (log_at R a.slots))) lists → AllExact R (tags_by (log_at R new)) lists
    exact_taken new tags ws lists clean did all =
        exact_as total exact (with_tags R tags (keys_of ws) (tags_by (log_at R a.slots))) (tags_by (log_at R new))
        (tags_written total exact (log_at R a.slots) (log_at R new) (look_at R a.slots) tags (keys_of ws) clean did.logs) lists all

    pub exact_guessed : (new : List (K × SlotView V)) (tags : List ℕ) (ws : List (K × Option V)) (lists : List (OpenGuess K)) (o : OpenGuess K) → ((q : K) → is_in R (keys_of ws) q ≡ true → tags ≡ [] → log_at R a.slots q ≡ []) → Performed R a.slots tags ws new
        → o.dependents ≡ with_entities R [] (keys_of ws) → has o.id tags ≡ true → has o.id (numbers a.opens) ≡ false
        → AllExact R (with_tags R tags (keys_of ws) (tags_by (log_at R a.slots))) lists → AllExact R (tags_by (log_at R new)) (lists ++ o ∷ [])
    exact_guessed new tags ws lists o clean did begins own closed all =
        exact_more total exact (tags_by (log_at R new)) lists o (exact_taken new tags ws lists clean did all)
        (λ k.
        ap (λ xs. is_in R xs k) begins ∙ begun total exact o.id tags (keys_of ws) (tags_by (log_at R a.slots)) own (not_known o.id closed) k
        ∙ ap (has o.id) (tags_written total exact (log_at R a.slots) (log_at R new) (look_at R a.slots) tags (keys_of ws) clean did.logs k))

    -- ---- decisions
    module _ (g : ℕ) (l : List K) (just : (k : K) → is_in R l k ≡ has g (tags_by (log_at R a.slots) k)) where
      not_carried : (q : K) → is_in R l q ≡ false → carries g (log_at R a.slots q) ≡ false
      not_carried q out = none_carried g (log_at R a.slots q) (grows q) (sym (just q) ∙ out)

      pub merges_so : (new : List (K × SlotView V)) → ((q : K) → log_at R new q ≡ cond (is_in R l q) (joined [] (committed g (log_at R a.slots q))) (log_at R a.slots q))
          → (q : K) → Merges [] (committed g (log_at R a.slots q)) (log_at R new q)
      merges_so new log q =
          subst (Merges [] (committed g (log_at R a.slots q))) (sym (log q))
          (elim (is_in R l q) as (λ b. is_in R l q ≡ b → Merges [] (committed g (log_at R a.slots q)) (cond b (joined [] (committed g (log_at R a.slots q))) (log_at R a.slots q))) [
            | true ↦ λ _. merges [] (committed g (log_at R a.slots q))
            | false ↦ λ out.
                subst (Merges [] (committed g (log_at R a.slots q))) (uncommitted g (log_at R a.slots q) (rests q) (not_carried q out))
                (merged.all_kept [] (committed g (log_at R a.slots q)))
          ] refl)

      pub commits_so : (b : Parts K V O) → ((q : K) → look_at R b.slots q ≡ look_at R a.slots q) → ((q : K) → Merges [] (committed g (log_at R a.slots q)) (log_at R b.slots q))
          → b.opens ≡ still_open g a.opens → b.said ≡ lightened g a.said → (status : ℕ → Option Status) → MergedCommits (machine_of R a status) g (machine_of R b (with_status g status_as.Committed status))
      commits_so b look log opens said status = record {
        look = look;
        logs = log;
        opens = opens;
        status = λ h. refl;
        texts = λ t. ap (λ xs. said_at xs t) said ∙ lightened_at g t a.said;
      }

      pub cuts_so : (new : List (K × SlotView V)) → ((q : K) → log_at R new q ≡ cond (is_in R l q) (cut g (log_at R a.slots q)) (log_at R a.slots q)) → (q : K) → log_at R new q ≡ cut g (log_at R a.slots q)
      cuts_so new log q = log q ∙ sym (kept_if (is_in R l q) (cut g (log_at R a.slots q)) (log_at R a.slots q) (λ out. uncut g (log_at R a.slots q) (not_carried q out)))

      pub fails_so : (b : Parts K V O) → ((q : K) → look_at R b.slots q ≡ cond (is_in R l q) (unwound g (log_at R a.slots q) (look_at R a.slots q)) (look_at R a.slots q)) → ((q : K) → log_at R b.slots q ≡ cut g (log_at R a.slots q))
          → b.opens ≡ not_struck g a.opens → b.said ≡ not_dropped g a.said → (status : ℕ → Option Status) → Fails (machine_of R a status) g (machine_of R b (with_failure g a.opens status))
      fails_so b look log opens said status = record {
        state = record {
          look = λ q. look q ∙ sym (kept_if (is_in R l q) (unwound g (log_at R a.slots q) (look_at R a.slots q)) (look_at R a.slots q) (λ out. unmoved g (log_at R a.slots q) (look_at R a.slots q) (not_carried q out)));
          logs = log;
          opens = opens;
        };
        status = λ h. refl;
        texts = λ t. ap (λ xs. said_at xs t) said ∙ dropped_at g t a.said;
      }

-- statuses that agree after a failure
pub fail_agrees : (av bv fv tv : KeptView) (ao bo fo to : List Open) (g : ℕ) (status : ℕ → Option Status) → tv ≡ av → to ≡ ao → bv ≡ fv → bo ≡ fo → has g (numbers ao) ≡ true
    → (AreStatuses tv to status → has g (numbers to) ≡ true → AreStatuses fv fo (with_failure g to status)) → AreStatuses av ao status → AreStatuses bv bo (with_failure g ao status)
fail_agrees av bv fv tv ao bo fo to g status same_view same_opens view opens here told are =
    let before = subst (λ v. AreStatuses v to status) (sym same_view) (subst (λ os. AreStatuses av os status) (sym same_opens) are) in
    let after = told before (ap (λ os. has g (numbers os)) same_opens ∙ here) in
    subst (λ os. AreStatuses bv bo (with_failure g os status)) same_opens
    (subst (λ v. AreStatuses v bo (with_failure g to status)) (sym view) (subst (λ os. AreStatuses fv os (with_failure g to status)) (sym opens) after))

-- ---- the first
pub whole_first : {K V O : Type 0} {R : K → K → Ordering} (total : IsTotalOrder R) (exact : IsAntisymmetric R) (a : Parts K V O) (number limit : ℕ) → ((k : K) → look_at R a.slots k ≡ None) → ((k : K) → log_at R a.slots k ≡ [])
    → a.opens ≡ [] → a.guesses ≡ none_drawn number limit → a.said ≡ [] → IsWhole R a
whole_first {R = R} total exact a number limit look log opens guesses said = record {
  start = empty;
  told = λ t. [];
  events = [];
  status = λ g. None;
  agrees = record {
    undecided = λ g. ap (λ os. has g (numbers os)) opens;
    struck = λ g here. absurd (false≢true (sym (ap (λ (v : KeptView). has g v.struck) guesses) ∙ here));
    fresh = λ g above. refl;
  };
  stands = first (again R) total exact empty (machine_of R a (λ g. None)) (record {
    look = λ k. look k ∙ sym (get-empty R k);
    logs = log;
    opens = opens;
    status = λ g. refl;
    texts = λ t. ap (λ xs. said_at xs t) said;
  });
}

-- a step that is no guess has no number
pub no_next : (n g : ℕ) → None ≡ Some g → n < g
no_next n g is = cc

pub next_above : (n g : ℕ) → Some (n + 1) ≡ Some g → n < g
next_above n g is = let same : n + 1 ≡ g = ap (λ o. unwrap_or o 0) is in omega (arith, same)

-- ---- what is taken out
pub whole_told : {K V O : Type 0} {R : K → K → Ordering} (a : Parts K V O) (whole : IsWhole R a) (t : ℕ) (o : Option O) (said : Said O) → IfSome o (λ output. said_at a.said t ≡ ((t, output), []) ∷ said_at said t)
    → ((u : ℕ) → (t == u) ≡ false → said_at said u ≡ said_at a.said u) → (o ≡ None → said ≡ a.said) → IsWhole R (record a { said = said })
whole_told {R = R} a whole t None said first others none = subst (λ xs. IsWhole R (record a { said = xs })) (sym (none refl)) whole
whole_told {R = R} a whole t (Some output) said first others none = record {
  start = whole.start;
  events = whole.events;
  told = told_more t output whole.told;
  status = whole.status;
  agrees = whole.agrees;
  stands = stands_told whole.told (machine_of R a whole.status) t output (machine_of R (record a { said = said }) whole.status)
      (record { look = λ k. refl; logs = λ k. refl; opens = refl; status = λ g. refl; first = first; others = others }) (again R) whole.start whole.events whole.stands;
}

-- what is known of a guess is its status
pub known_agrees : (v : KeptView) (os : List Open) (status : ℕ → Option Status) (g : ℕ) → AreStatuses v os status → IfSome (known v os g) (λ s. status g ≡ Some s)
known_agrees v os status g are =
    elim (has g (numbers os)) as (λ b. has g (numbers os) ≡ b → IfSome (cond b (Some Undecided) (cond (has g v.struck) (Some Struck) None)) (λ s. status g ≡ Some s)) [
      | true ↦ λ here. open_is (status g) (sym (are.undecided g) ∙ here)
      | false ↦ λ _. elim (has g v.struck) as (λ b. has g v.struck ≡ b → IfSome (cond b (Some Struck) None) (λ s. status g ≡ Some s)) [
        | true ↦ λ here. are.struck g here
        | false ↦ λ _. tt
      ] refl
    ] refl

-- what a token redeems, by whether it is of this kernel, and of a guess that is undecided, or struck
module _ (t : Token) where
  abbrev redeems : Bool → Bool → Bool → Result Redeemed Token
  redeems own here struck = cond own (redeemed_at (cond here (Some Undecided) (cond struck (Some Struck) None)) t) (Err t)

  of_undecided : (own here struck : Bool) (g : ℕ) → redeems own here struck ≡ Ok (redeemed_as.Undecided g)
      → (own ≡ true) × (here ≡ true) × (g ≡ t.id)
  of_undecided true true struck g is = (refl, refl, cc)
  of_undecided true false true g is = cc
  of_undecided own here struck g is = cc

  of_struck : (own here struck : Bool) (g : ℕ) → redeems own here struck ≡ Ok (redeemed_as.Struck g)
      → (own ≡ true) × (struck ≡ true) × (g ≡ t.id)
  of_struck true false true g is = (refl, refl, cc)
  of_struck own here struck g is = cc

  of_back : (own here struck : Bool) (back : Token) → redeems own here struck ≡ Err back
      → (own ≡ true → (here ≡ false) × (struck ≡ false)) × (back ≡ t)
  of_back true false false back is = (λ _. (refl, refl), cc)
  of_back false here struck back is = (λ no. absurd (false≢true no), cc)
  of_back own here struck back is = cc

-- a token was redeemed, and nothing else was done
module _ {K V O : Type 0} {slots : List (K × SlotView V)} {said : Said O} {v w : KeptView}
    {lists new : List (OpenGuess K)} {p : Parts K V O} {told : Result Redeemed Token} (t : Token)
    (result : told ≡ redeemed_kept v (opens_of lists) t) (view : w ≡ forgotten v told) (opens : new ≡ lists)
    (is : record { slots = slots; guesses = v; opens = opens_of lists; said = said } ≡ p) where
  abbrev parts : Parts K V O
  parts = record { slots = slots; guesses = w; opens = opens_of new; said = said }

  own_kernel : (t.kernel == v.kernel) ≡ true → t.kernel ≡ p.guesses.kernel
  own_kernel same = eqb-true t.kernel v.kernel same ∙ ap (λ (q : Parts K V O). q.guesses.kernel) is

  parts_are : (u : KeptView) → w ≡ u
      → parts ≡ record { slots = slots; guesses = u; opens = opens_of lists; said = said }
  parts_are u same = λ i. record { slots = slots; guesses = same i; opens = opens_of (opens i); said = said }

  pub undecided_spent : {g : ℕ} → told ≡ Ok (redeemed_as.Undecided g)
      → (t.kernel ≡ p.guesses.kernel) × (has g (numbers parts.opens) ≡ true) × (parts ≡ p) × (g ≡ t.id)
  undecided_spent {g} at =
      let so = of_undecided t (t.kernel == v.kernel) (has t.id (numbers (opens_of lists))) (has t.id v.struck) g
      (sym result ∙ at) in (
        own_kernel so.0,
        (λ i. has (so.2 i) (numbers (opens_of (opens i)))) ∙ so.1,
        parts_are v (view ∙ ap (forgotten v) at) ∙ is,
        so.2,
      )

  pub struck_spent : {g : ℕ} (R : K → K → Ordering) → told ≡ Ok (redeemed_as.Struck g)
      → (t.kernel ≡ p.guesses.kernel) × Forgets R p t.id parts
  struck_spent {g} R at =
      let so = of_struck t (t.kernel == v.kernel) (has t.id (numbers (opens_of lists))) (has t.id v.struck) g
      (sym result ∙ at) in
      let left : KeptView = record v { struck = without t.id v.struck } in
      let is_left : w ≡ left = view ∙ ap (forgotten v) at ∙ ap (λ n. record v { struck = without n v.struck }) so.2 in
      (own_kernel so.0, subst (λ q. Forgets R q t.id parts) is (record { struck = so.1; left = parts_are left is_left }))

  pub back_spent : {back : Token} → told ≡ Err back → IsStranger p t × (back ≡ t) × (parts ≡ p)
  back_spent {back} at =
      let so = of_back t (t.kernel == v.kernel) (has t.id (numbers (opens_of lists))) (has t.id v.struck) back
      (sym result ∙ at) in (
        subst (λ q. IsStranger q t) is (λ same. so.0 (eq-eqb t.kernel v.kernel same)),
        so.1,
        parts_are v (view ∙ ap (forgotten v) at) ∙ is,
      )

-- what stands after a token came back or was spent
pub sound_redeemed : {K V O : Type 0} {R : K → K → Ordering} {slots : List (K × SlotView V)} {said : Said O}
    {v w : KeptView} {lists new : List (OpenGuess K)}
    → IsSound R (record { slots = slots; guesses = v; opens = opens_of lists; said = said }) lists → new ≡ lists
    → ((status : ℕ → Option Status) → AreStatuses v (opens_of lists) status → AreStatuses w (opens_of new) status)
    → IsSound R (record { slots = slots; guesses = w; opens = opens_of new; said = said }) new
sound_redeemed {R = R} {slots} {said} {w = w} sound same agrees =
    let whole = sound.whole in
    record {
      settled = sound.settled;
      exact = subst (AllExact R (tags_by (log_at R slots))) (sym same) sound.exact;
      whole = record {
        start = whole.start;
        events = whole.events;
        told = whole.told;
        status = whole.status;
        agrees = agrees whole.status whole.agrees;
        stands = subst (λ xs. MergedStands (again R) whole.start whole.events (with_told whole.told (machine_of R (record { slots = slots; guesses = w; opens = opens_of xs; said = said }) whole.status))) (sym same) whole.stands;
      };
    }
