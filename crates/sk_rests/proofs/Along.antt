-- What is logged and what the machine stands for go together, call by call.
use Rattle.sk_rests.proofs.Names.{◌≡◌, ℕ, Bool, true, false, not, ◌&&◌, ◌||◌, List, [], ◌∷◌, ◌++◌, map, Ok, inl, inr}
use Rattle.sk_rests.proofs.Names.{refl, sym, ◌∙◌, ap, subst, append_assoc, ◌==◌, ◌⊎◌, list_any, filter, Contains}
use Rattle.sk_rests.proofs.Names.{IsTotalOrder, FinMap, IsAntisymmetric, or_cases, or_left, or_right, true≢false}
use Rattle.sk_rests.proofs.Names.{eq-eqb, eqb-true, true_from_ne_false, false_from_ne_true, append-nil, map-append}
use Rattle.sk_rests.proofs.Names.{list_any-append, Contains-append_left, Contains-push, and-true, perform, MarkedEffect}
use Rattle.sk_rests.proofs.Names.{is_marked, hit, hits, dirt, keep, touches, System, marked_effect, run, outcome}
use Rattle.sk_rests.proofs.Names.{IsLegal, effects, struck, strike, has, Event, Taken, Commit, Fail, IsDrawn, record_of}
use Rattle.sk_rests.proofs.Names.{effects_of, undecided_of, all_recorded, no_record, Record, marks, still_marked}
use Rattle.sk_rests.proofs.Names.{Undecided, numbers, tags_at, is_tag, Machine, MergedStands, has_filter, unmarked_hits}
use Rattle.sk_rests.proofs.Names.{union_is, accepted_run, longer, nil_right, has_passed, and_both, any_at, inv_of}
use Rattle.sk_rests.proofs.Names.{recorded_more, tidy_of, struck_runs, later, any_from, has_fail, is_drawn, mark_is}
use Rattle.sk_rests.proofs.Names.{draws, marked_is, or_no, record_more, entries_are, tests, undecided_is}
use Rattle.sk_rests.proofs.Names.{undrawn_before, fresh_from, one_status, same_tags, merged_run, effect_of, Steps}
use Rattle.sk_rests.proofs.Names.{Moves, Call, Does, Tells, Told, told_more, with_told, TakenOut, moves_of, one, first}
use Rattle.sk_rests.proofs.Names.{takes_told, commits_told, fails_told, stands_told, Logged, failed_in, is_struck, kept}
use Rattle.sk_rests.proofs.Names.{done_at, IsLogged, IsLogOf, Logs}
use Rattle.sk_rests.proofs.Lists.{rested, none_kept, all_false, any_map, keep_map, map_keep, flat, failed_more, failed_is, kept_more, kept_one, kept_push, hits_push, no_hits, marks_is}

module _ {K V O F N : Type 0} (own : System K V (ℕ × O) F N) (start : FinMap own.order V) where
  -- the machine stands for the trace, whose record is that of the steps that are left; these have what they depend on flagged
  pub record Stands (es : List (Event N)) (log : List (Logged N O)) (m : Machine K V (ℕ × O)) : Type 0 where
    pub stands : MergedStands own start es m
    pub left : List (Logged N O)
    pub is : left ≡ kept (failed_in es) log
    pub entries : record_of own start es ≡ map (λ r. r.entry) left
    pub said : map (λ f. f.said) (effects_of own start es) ≡ map (λ r. r.said) left
    pub flags : (g : ℕ) → has g (undecided_of own start es) ≡ true
        → struck own start (record_of own start es) g ≡ map (λ r. has g r.rests) left
    pub drawn : (g : ℕ) → rested g log ≡ true → IsDrawn own es g
    pub decided : (g : ℕ) → rested g left ≡ true → (has g (undecided_of own start es) ≡ true) ⊎ Contains es (Commit g)

  drawn_on : (es : List (Event N)) (e : Event N) (g : ℕ) → IsDrawn own es g → IsDrawn own (es ++ e ∷ []) g
  drawn_on es e g d = (d.0, Contains-append_left es (e ∷ []) (Taken d.0) d.1, d.2)

  pub stands_first : (m : Machine K V (ℕ × O)) → MergedStands own start [] m → Stands [] [] m
  stands_first m stands = record {
    stands = stands;
    left = [];
    is = refl;
    entries = refl;
    said = refl;
    flags = λ g here. absurd (true≢false (sym here));
    drawn = λ g here. absurd (true≢false (sym here));
    decided = λ g here. absurd (true≢false (sym here));
  }

  -- ---- a commit
  open_after_commit : (es : List (Event N)) (c : ℕ)
      → undecided_of own start (es ++ Commit c ∷ []) ≡ filter (λ t. not (t == c)) (undecided_of own start es)
  open_after_commit es c = ap (λ (r : Record N). r.undecided) (recorded_more own start no_record es (Commit c))

  still_decided : (es : List (Event N)) (c g : ℕ) → (has g (undecided_of own start es) ≡ true) ⊎ Contains es (Commit g)
      → (has g (undecided_of own start (es ++ Commit c ∷ [])) ≡ true) ⊎ Contains (es ++ Commit c ∷ []) (Commit g)
  still_decided es c g (inr before) = inr (Contains-append_left es (Commit c ∷ []) (Commit g) before)
  still_decided es c g (inl here) =
      elim (g == c) as
      (λ b. (g == c) ≡ b
      → (has g (undecided_of own start (es ++ Commit c ∷ [])) ≡ true) ⊎ Contains (es ++ Commit c ∷ []) (Commit g)) [
        | true ↦ λ same. inr
            (subst (λ h. Contains (es ++ Commit c ∷ []) (Commit h)) (sym (eqb-true g c same))
            (Contains-push es (Commit c)))
        | false ↦ λ other.
            inl (ap (has g) (open_after_commit es c) ∙ has_passed (λ t. not (t == c)) g (undecided_of own start es)
            (ap not other) here)
      ] refl

  pub committed : (es : List (Event N)) (log : List (Logged N O)) (m : Machine K V (ℕ × O)) (c : ℕ)
      (b : Machine K V (ℕ × O))
      → Stands es log m → MergedStands own start (es ++ Commit c ∷ []) b → Stands (es ++ Commit c ∷ []) log b
  committed es log m c b s stands =
      let same = record_more own start es (Commit c) in
      record {
        stands = stands;
        left = s.left;
        is = s.is ∙ ap (λ gs. kept gs log) (sym (failed_more es (Commit c ∷ []) ∙ append-nil (failed_in es)));
        entries = same ∙ s.entries;
        said = ap (λ ns. map (λ f. f.said) (effects own start ns)) same ∙ s.said;
        flags = λ g here.
            ap (λ ns. struck own start ns g) same
            ∙ s.flags g
            (and_both _ _
            (sym (has_filter (λ t. not (t == c)) g (undecided_of own start es)) ∙ sym
            (ap (has g) (open_after_commit es c)) ∙ here)).1;
        drawn = λ g here. drawn_on es (Commit c) g (s.drawn g here);
        decided = λ g here. still_decided es c g (s.decided g here);
      }

module _ {K V O F N : Type 0} (own : System K V (ℕ × O) F N) (total : IsTotalOrder own.order)
    (exact : IsAntisymmetric own.order) (start : FinMap own.order V) where
  -- ---- a failure
  open_after_failure : (es : List (Event N)) (c : ℕ)
      → undecided_of own start (es ++ Fail c ∷ [])
      ≡ filter (still_marked (effects own start (strike own start (record_of own start es) c)))
      (undecided_of own start es)
  open_after_failure es c =
      ap (λ (r : Record N). r.undecided) (recorded_more own start no_record es (Fail c))
      ∙ ap (λ ns. filter (still_marked (effects own start (strike own start ns c))) (undecided_of own start es))
      (entries_are own start es)

  legal_now : (es : List (Event N)) (m : Machine K V (ℕ × O)) → MergedStands own start es m
      → IsLegal own start (record_of own start es)
  legal_now es m s = s.stands.sound.legal es [] (sym (nil_right es))

  module _ (es : List (Event N)) (log : List (Logged N O)) (m : Machine K V (ℕ × O)) (c : ℕ)
      (s : Stands own start es log m) (is_open : has c (undecided_of own start es) ≡ true) where
    -- the flags of what is left are those that it had
    flags_left : (g : ℕ) → has g (undecided_of own start es) ≡ true
        → struck own start (strike own start (record_of own start es) c) g
        ≡ map (λ r. has g r.rests) (filter (λ r. not (has c r.rests)) s.left)
    flags_left g there =
        later own total exact start (record_of own start es) c g (legal_now es m s.stands)
        ∙ (λ i. keep (s.flags c is_open i) (s.flags g there i))
        ∙ keep_map (λ r. has c r.rests) (λ r. has g r.rests) s.left

    -- and what it depends on is still marked
    marked_left : (g : ℕ) → has g (undecided_of own start es) ≡ true
        → rested g (filter (λ r. not (has c r.rests)) s.left) ≡ true
        → still_marked (effects own start (strike own start (record_of own start es) c)) g ≡ true
    marked_left g there here =
        true_from_ne_false _ (λ none.
        true≢false (sym here ∙ sym (any_map (λ r. has g r.rests) (filter (λ r. not (has c r.rests)) s.left))
        ∙ ap (list_any (λ b. b)) (sym (flags_left g there))
        ∙ unmarked_hits own.order g (effects own start (strike own start (record_of own start es) c)) none))

    decided_left : (g : ℕ) → rested g (filter (λ r. not (has c r.rests)) s.left) ≡ true
        → (has g (undecided_of own start es) ≡ true) ⊎ Contains es (Commit g)
        → (has g (undecided_of own start (es ++ Fail c ∷ [])) ≡ true) ⊎ Contains (es ++ Fail c ∷ []) (Commit g)
    decided_left g here (inr before) = inr (Contains-append_left es (Fail c ∷ []) (Commit g) before)
    decided_left g here (inl there) =
        inl (ap (has g) (open_after_failure es c)
        ∙ has_passed (still_marked (effects own start (strike own start (record_of own start es) c))) g
        (undecided_of own start es) (marked_left g there here) there)

    rested_before : (g : ℕ) → rested g (filter (λ r. not (has c r.rests)) s.left) ≡ true → rested g s.left ≡ true
    rested_before g here =
        true_from_ne_false _
        (λ none. true≢false (sym here ∙ none_kept (λ r. has g r.rests) (λ r. not (has c r.rests)) s.left none))

    pub failed : (b : Machine K V (ℕ × O)) → MergedStands own start (es ++ Fail c ∷ []) b
        → Stands own start (es ++ Fail c ∷ []) log b
    failed b stands =
        let same = record_more own start es (Fail c) in
        let run = struck_runs own total exact start (record_of own start es) c (legal_now es m s.stands) in
        record {
          stands = stands;
          left = filter (λ r. not (has c r.rests)) s.left;
          is = ap (filter (λ r. not (has c r.rests))) s.is ∙ sym (kept_one c (kept (failed_in es) log))
              ∙ sym (kept_more (failed_in es) (c ∷ []) log) ∙ ap (λ gs. kept gs log)
              (sym (failed_more es (Fail c ∷ [])));
          entries = same ∙ (λ i. keep (s.flags c is_open i) (s.entries i)) ∙ keep_map (λ r. has c r.rests)
              (λ r. r.entry) s.left;
          said = ap (λ ns. map (λ f. f.said) (effects own start ns)) same ∙ ap (map (λ f. f.said)) run.steps
              ∙ map_keep (λ f. f.said) (struck own start (record_of own start es) c) (effects_of own start es)
              ∙ (λ i. keep (s.flags c is_open i) (s.said i)) ∙ keep_map (λ r. has c r.rests) (λ r. r.said) s.left;
          flags = λ g here.
              ap (λ ns. struck own start ns g) same
              ∙ flags_left g
              (and_both _ _
              (sym (has_filter (still_marked (effects own start (strike own start (record_of own start es) c))) g
              (undecided_of own start es))
              ∙ sym (ap (has g) (open_after_failure es c)) ∙ here)).1;
          drawn = λ g here. drawn_on own start es (Fail c) g (s.drawn g here);
          decided = λ g here. decided_left g here (s.decided g (rested_before g here));
        }

  -- ---- a step
  module _ (es : List (Event N)) (log : List (Logged N O)) (m : Machine K V (ℕ × O)) (n : N) (b : Machine K V (ℕ × O))
      (r : Logged N O)
      (s : Stands own start es log m) (logged : IsLogged own m.state n r) (t : Steps own m n b)
      (stands : MergedStands own start (es ++ Taken n ∷ []) b) where
    abbrev now : Machine K V (ℕ × O)
    now = s.stands.full

    abbrev then : Record N
    then = all_recorded own start no_record es

    abbrev left_behind : MarkedEffect K V (ℕ × O)
    left_behind = marked_effect own (own.mark n) (Ok (effect_of m.state.look t.deed))

    is_left_behind : done_at own m.state n ≡ left_behind
    is_left_behind = ap (marked_effect own (own.mark n)) t.honest

    accepted : outcome own (run own start then.entries) n ≡ Ok (effect_of m.state.look t.deed)
    accepted =
        accepted_run own total exact start then now.state
        (inv_of own total exact start then now.state s.stands.stands.state) n (Ok (effect_of m.state.look t.deed))
        ((λ i. perform (λ k. sym (s.stands.merged.look k) i) (own.act n)) ∙ t.honest)

    grown : effects_of own start (es ++ Taken n ∷ []) ≡ effects_of own start es ++ left_behind ∷ []
    grown =
        ap (effects own start) (record_more own start es (Taken n))
        ∙ ap (λ ns. effects own start (ns ++ n ∷ [])) (sym (entries_are own start es))
        ∙ longer own total exact start then n (Ok (effect_of m.state.look t.deed)) accepted
        ∙ ap (λ ns. effects own start ns ++ left_behind ∷ []) (entries_are own start es)

    open_after : undecided_of own start (es ++ Taken n ∷ []) ≡ undecided_of own start es ++ marks (own.mark n)
    open_after = ap (λ (r : Record N). r.undecided) (recorded_more own start no_record es (Taken n))

    -- it depends on what the tags say
    is_its_tag : (g : ℕ) → has g r.rests ≡ is_tag now.state left_behind g
    is_its_tag g =
        logged.rests g
        ∙ ap (λ f. is_tag m.state f g) is_left_behind
        ∙ (λ i. is_marked (own.mark n) g
        || list_any (λ k. has g (same_tags now m s.stands.merged k i)) (touches left_behind))

    -- which are the guesses that its position depends on
    is_hit : (g : ℕ) → has g (undecided_of own start es ++ marks (own.mark n)) ≡ true
        → has g r.rests ≡ hit own.order g (dirt own.order g [] (effects_of own start es)) left_behind
    is_hit g here =
        let p : ℕ → Bool = is_tag now.state left_behind in
        let q : ℕ → Bool = λ g. hit own.order g (dirt own.order g [] (effects own start then.entries)) left_behind in
        let opens = s.stands.stands.state.guesses in
        is_its_tag g
        ∙ sym (and-true (p g))
        ∙ ap (λ b. p g && b) (sym (ap (λ us. has g (us ++ marks (own.mark n))) opens ∙ here))
        ∙ sym (has_filter p g (numbers now.state.opens ++ marks (own.mark n)))
        ∙ ap (has g)
        (union_is own total exact start then now.state
        (inv_of own total exact start then now.state s.stands.stands.state) left_behind
        (fresh_from own start es n stands.stands.sound))
        ∙ has_filter q g (undecided_of own start es ++ marks (own.mark n))
        ∙ ap (λ b. q g && b) here
        ∙ and-true (q g)
        ∙ ap (λ ns. hit own.order g (dirt own.order g [] (effects own start ns)) left_behind) (entries_are own start es)

    -- all that it depends on is open then, or its own guess
    rests_open : (g : ℕ) → has g r.rests ≡ true
        → (has g (undecided_of own start es) ≡ true) ⊎ (is_marked (own.mark n) g ≡ true)
    rests_open g here =
        elim (or_cases (is_marked (own.mark n) g) (list_any (λ k. has g (tags_at now.state k)) (touches left_behind))
        (sym (is_its_tag g) ∙ here)) [
          | inl its_own ↦ inr its_own
          | inr some ↦
              let k = any_from (λ k. has g (tags_at now.state k)) (touches left_behind) some in
              inl (ap (has g) (sym s.stands.stands.state.guesses) ∙
              (tidy_of own total exact start then now.state s.stands.stands.state).known k.0 g k.2)
        ]

    undrawn : (g : ℕ) → is_marked (own.mark n) g ≡ true → list_any (draws own g) es ≡ false
    undrawn g is = undrawn_before own start es n stands.stands.sound g is

    not_failed : (g : ℕ) → (has g (undecided_of own start es) ≡ true) ⊎ (is_marked (own.mark n) g ≡ true)
        → has g (failed_in es) ≡ false
    not_failed g (inl here) =
        failed_is es g ∙ false_from_ne_true _
        (λ fails. ((undecided_is own start es s.stands.stands.sound g).0 here).1 ((has_fail es g).0 fails))
    not_failed g (inr its_own) = failed_is es g ∙
        ((tests own start g es s.stands.stands.sound).undrawn (undrawn g its_own)).1

    not_struck : is_struck (failed_in es) r ≡ false
    not_struck =
        false_from_ne_true _ (λ fails.
        let g = any_from (λ g. has g (failed_in es)) r.rests fails in
        true≢false (sym g.2 ∙ not_failed g.0
        (rests_open g.0 (any_at (λ t. t == g.0) r.rests g.0 g.1 (eq-eqb g.0 g.0 refl)))))

    -- no step that is left depends on its own guess
    none_rested : (g : ℕ) → is_marked (own.mark n) g ≡ true → rested g s.left ≡ false
    none_rested g is =
        ap (rested g) s.is
        ∙ none_kept (λ r. has g r.rests) (λ r. not (is_struck (failed_in es) r)) log
        (false_from_ne_true _ (λ here. true≢false (sym ((is_drawn own es g).1 (s.drawn g here)) ∙ undrawn g is)))

    flags_before : (g : ℕ) → has g (undecided_of own start es ++ marks (own.mark n)) ≡ true
        → hits own.order g [] (effects_of own start es) ≡ map (λ r. has g r.rests) s.left
    flags_before g there =
        elim (or_cases _ _
        (sym (list_any-append (λ t. t == g) (undecided_of own start es) (marks (own.mark n))) ∙ there)) [
          | inl before ↦ s.flags g before
          | inr mark ↦
              let its_own : is_marked (own.mark n) g ≡ true = sym (marks_is (own.mark n) g) ∙ mark in
              let none = (tests own start g es s.stands.stands.sound).undrawn (undrawn g its_own) in
              no_hits own.order g (effects_of own start es)
              (marked_is own start start (record_of own start es) g ∙ none.2)
              ∙ sym (flat (λ f. f.said) (effects_of own start es))
              ∙ ap (map (λ o. false)) s.said
              ∙ flat (λ r. r.said) s.left
              ∙ sym (all_false (λ r. has g r.rests) s.left (none_rested g its_own))
        ]

    flags_after : (g : ℕ) → has g (undecided_of own start es ++ marks (own.mark n)) ≡ true
        → struck own start (record_of own start (es ++ Taken n ∷ [])) g ≡ map (λ r. has g r.rests) (s.left ++ r ∷ [])
    flags_after g there =
        ap (hits own.order g []) grown
        ∙ hits_push own.order g [] (effects_of own start es) left_behind
        ∙ (λ i. flags_before g there i ++ sym (is_hit g there) i ∷ [])
        ∙ sym (map-append (λ r. has g r.rests) s.left (r ∷ []))

    in_open : (g : ℕ) → (has g (undecided_of own start es) ≡ true) ⊎ (is_marked (own.mark n) g ≡ true)
        → has g (undecided_of own start (es ++ Taken n ∷ [])) ≡ true
    in_open g here =
        ap (has g) open_after
        ∙ list_any-append (λ t. t == g) (undecided_of own start es) (marks (own.mark n))
        ∙ elim here [ inl before ↦ or_left _ _ before | inr mark ↦ or_right _ _ (marks_is (own.mark n) g ∙ mark) ]

    is_drawn_now : (g : ℕ) → (has g (undecided_of own start es) ≡ true) ⊎ (is_marked (own.mark n) g ≡ true)
        → IsDrawn own (es ++ Taken n ∷ []) g
    is_drawn_now g (inl before) =
        drawn_on own start es (Taken n) g
        ((one_status own start es s.stands.stands.sound g).0.1
        (Undecided, (undecided_is own start es s.stands.stands.sound g).0 before))
    is_drawn_now g (inr mark) = (n, Contains-push es (Taken n), mark_is (own.mark n) g mark)

    of_last : (g : ℕ) (xs : List (Logged N O)) → rested g (xs ++ r ∷ []) ≡ true
        → (rested g xs ≡ true) ⊎ (has g r.rests ≡ true)
    of_last g xs here =
        elim (or_cases _ _ (sym (list_any-append (λ r. has g r.rests) xs (r ∷ [])) ∙ here)) [
          | inl before ↦ inl before
          | inr last ↦ inr (sym (or_no (has g r.rests)) ∙ last)
        ]

    still : (g : ℕ) → (has g (undecided_of own start es) ≡ true) ⊎ Contains es (Commit g)
        → (has g (undecided_of own start (es ++ Taken n ∷ [])) ≡ true) ⊎ Contains (es ++ Taken n ∷ []) (Commit g)
    still g (inl here) = inl (in_open g (inl here))
    still g (inr before) = inr (Contains-append_left es (Taken n ∷ []) (Commit g) before)

    pub taken : Stands own start (es ++ Taken n ∷ []) (log ++ r ∷ []) b
    taken = record {
      stands = stands;
      left = s.left ++ r ∷ [];
      is = (λ i. s.is i ++ r ∷ []) ∙ sym (kept_push (failed_in es) log r not_struck)
          ∙ ap (λ gs. kept gs (log ++ r ∷ [])) (sym (failed_more es (Taken n ∷ []) ∙ append-nil (failed_in es)));
      entries = record_more own start es (Taken n) ∙ (λ i. s.entries i ++ sym logged.entry i ∷ []) ∙ sym
          (map-append (λ r. r.entry) s.left (r ∷ []));
      said = ap (map (λ f. f.said)) grown
          ∙ map-append (λ f. f.said) (effects_of own start es) (left_behind ∷ [])
          ∙ (λ i. s.said i ++ sym (logged.said ∙ ap (λ (f : MarkedEffect K V (ℕ × O)). f.said) is_left_behind) i ∷ [])
          ∙ sym (map-append (λ r. r.said) s.left (r ∷ []));
      flags = λ g here. flags_after g (ap (has g) (sym open_after) ∙ here);
      drawn = λ g here.
          elim (of_last g log here) [
            | inl before ↦ drawn_on own start es (Taken n) g (s.drawn g before)
            | inr last ↦ is_drawn_now g (rests_open g last)
          ];
      decided = λ g here.
          elim (of_last g s.left here) [
            | inl before ↦ still g (s.decided g before)
            | inr last ↦ inl (in_open g (rests_open g last))
          ];
    }

  -- ---- any calls
  module _ (goes : (w : ℕ × O) → own.goes_to w ≡ w.0) where
    pub one_more : (told : Told O) (es : List (Event N)) (log : List (Logged N O)) (a : Machine K V (ℕ × O))
        (e : Event N) (b : Machine K V (ℕ × O)) (more : List (Logged N O))
        → Stands own start es log (with_told told a) → Moves own a e b → IsLogOf own a.state e more
        → Stands own start (es ++ e ∷ []) (log ++ more) (with_told told b)
    one_more told es log a (Taken n) b more s move (r, is, logged) =
        let t : Steps own (with_told told a) n (with_told told b) =
        record {
          deed = move.deed;
          honest = move.honest;
          takes = takes_told told _ a _ b move.takes;
          fresh = move.fresh;
        } in
        subst (λ xs. Stands own start (es ++ Taken n ∷ []) (log ++ xs) (with_told told b)) (sym is)
        (taken es log (with_told told a) n (with_told told b) r s
        (record { entry = logged.entry; said = logged.said; rests = logged.rests }) t
        (one own total exact start goes es (with_told told a) (Taken n) (with_told told b) s.stands t))
    one_more told es log a (Commit g) b more s move is =
        subst (λ xs. Stands own start (es ++ Commit g ∷ []) xs (with_told told b))
        (sym (ap (λ xs. log ++ xs) is ∙ append-nil log))
        (committed own start es log (with_told told a) g (with_told told b) s
        (one own total exact start goes es (with_told told a) (Commit g) (with_told told b) s.stands
        (move.0, commits_told told a g b move.1)))
    one_more told es log a (Fail g) b more s move is =
        let is_open = (undecided_is own start es s.stands.stands.sound g).1
        (((merged_run own total exact start es (with_told told a) s.stands).statuses g Undecided).0 move.0) in
        subst (λ xs. Stands own start (es ++ Fail g ∷ []) xs (with_told told b))
        (sym (ap (λ xs. log ++ xs) is ∙ append-nil log))
        (failed es log (with_told told a) g s is_open (with_told told b)
        (one own total exact start goes es (with_told told a) (Fail g) (with_told told b) s.stands
        (move.0, fails_told told a g b move.1)))

    pub taken_out : (told : Told O) (es : List (Event N)) (log : List (Logged N O)) (a : Machine K V (ℕ × O)) (t : ℕ)
        (output : O) (b : Machine K V (ℕ × O))
        → Stands own start es log (with_told told a) → TakenOut a t output b
        → Stands own start es log (with_told (told_more t output told) b)
    taken_out told es log a t output b s out = record {
      stands = stands_told told a t output b out own start es s.stands;
      left = s.left;
      is = s.is;
      entries = s.entries;
      said = s.said;
      flags = s.flags;
      drawn = s.drawn;
      decided = s.decided;
    }

    pub along : (before : List (Event N)) (first : List (Logged N O)) (cs : List (Call N O)) (log : List (Logged N O))
        (told last : Told O) (a b : Machine K V (ℕ × O))
        → Stands own start before first (with_told told a) → Logs own told a cs log last b
        → Stands own start (before ++ moves_of cs) (first ++ log) (with_told last b)
    along before first [] log told last a b s (none, same, is) =
        subst (λ es. Stands own start es (first ++ log) (with_told last b)) (sym (append-nil before))
        (subst (λ xs. Stands own start before xs (with_told last b))
        (sym (ap (λ xs. first ++ xs) none ∙ append-nil first))
        (subst (λ w. Stands own start before first (with_told w b)) same
        (subst (λ m. Stands own start before first (with_told told m)) is s)))
    along before first (Does e ∷ cs) log told last a b s (m, one, more, is, move, logged, rest) =
        subst (λ es. Stands own start es (first ++ log) (with_told last b)) (append_assoc before (e ∷ []) (moves_of cs))
        (subst (λ xs. Stands own start ((before ++ e ∷ []) ++ moves_of cs) xs (with_told last b))
        (append_assoc first one more ∙ ap (λ xs. first ++ xs) (sym is))
        (along (before ++ e ∷ []) (first ++ one) cs more told last m b
        (one_more told before first a e m one s move logged) rest))
    along before first (Tells t output ∷ cs) log told last a b s (m, out, rest) =
        along before first cs log (told_more t output told) last m b (taken_out told before first a t output m s out)
        rest
