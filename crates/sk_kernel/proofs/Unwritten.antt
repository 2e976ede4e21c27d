-- What an accepted step writes has its values and its tags, what it does not write keeps its own; and a failed guess is no tag.
use Rattle.sk_kernel.proofs.Names.{◌≡◌, ℕ, true, false, ◌||◌, List, [], ◌∷◌, ◌++◌, map, Option, Ok, refl, sym, ◌∙◌, ap}
use Rattle.sk_kernel.proofs.Names.{list_any, Contains, eq_by_cmp, IsTotalOrder, FinMap, get, IsAntisymmetric, or_right}
use Rattle.sk_kernel.proofs.Names.{true≢false, false_from_ne_true, append-nil, Contains-push, list_any-append, Effect}
use Rattle.sk_kernel.proofs.Names.{MarkedEffect, is_in, is_marked, touches, written_value, System, marked_effect}
use Rattle.sk_kernel.proofs.Names.{outcome, run, Note, has, noted, last_tags, Undecided, Taken, Fail, StatusIs, IsTagOf}
use Rattle.sk_kernel.proofs.Names.{IsAllowed, IsSound, record_of, all_recorded, no_record, deps, marks, UndoState}
use Rattle.sk_kernel.proofs.Names.{IsTidy, numbers, is_tag, step_tags, Machine, RepresentsTrace, took_by, machine_after}
use Rattle.sk_kernel.proofs.Names.{in_from, has_filter, tidy_clean, same_outcome, stands_taken, machine_stands}
use Rattle.sk_kernel.proofs.Names.{plain_run, sound_fail, tags_are, tidy_of, written_other, last_more}
use Rattle.std.proofs.Common.{◌==◌, arith}
use Rattle.sk_record.specs.Trace.{Event}
use Rattle.sk_record.specs.UndoState.{tags_at}

module _ {V : Type 0} where
  -- after a write the last note has the write's tags
  last_noted : (tags : List ℕ) (v : Option V) (log : List (Note V)) → (tags ≡ [] → log ≡ []) → last_tags [] (log ++ noted true tags v []) ≡ tags
  last_noted [] v log clean = ap (λ l. last_tags [] (l ++ [])) (clean refl)
  last_noted (t ∷ tags) v log clean = last_more [] log (record { tags = t ∷ tags; before = v })

module _ {E V W : Type 0} (a : UndoState E V) (f : MarkedEffect E V W) (tidy : IsTidy a) (g : ℕ) where
  known_at : (es : List E) → list_any (λ e. has g (tags_at a e)) es ≡ true → has g (numbers a.opens) ≡ true
  known_at [] touched = absurd (true≢false (sym touched))
  known_at (e ∷ es) touched = grind (arith, tidy.known e g, known_at es)

  marked_here : (mark : Option ℕ) → is_marked mark g ≡ true → has g (marks mark) ≡ true
  marked_here mark is = grind arith

  is_known : is_tag a f g ≡ true → has g (numbers a.opens ++ marks f.mark) ≡ true
  is_known is =
      grind (arith, list_any-append (λ t. t == g) (numbers a.opens) (marks f.mark), marked_here f.mark, known_at (touches f))

  -- a step depends on what something that it touches depends on, and on its own guess
  in_step_tags : has g (step_tags a f) ≡ is_tag a f g
  in_step_tags = grind (arith, is_known, has_filter (is_tag a f) g (numbers a.opens ++ marks f.mark))

module _ {E V W F N : Type 0} (K : System E V W F N) (total : IsTotalOrder K.order) (exact : IsAntisymmetric K.order) (start : FinMap K.order V) where
  -- the tags of an entity, computed on the trace
  abbrev computed : List (Event N) → E → List ℕ
  computed es e = deps K start (all_recorded K start no_record es) e

  computed_are : (es : List (Event N)) (m : Machine E V W) → RepresentsTrace K start es m → (e : E) → tags_at m.state e ≡ computed es e
  computed_are es m stands e = tags_are K total exact start (all_recorded K start no_record es) m.state stands.state e

  module _ (es : List (Event N)) (n : N) (f : Effect E V W) (sound : IsSound K start es) (allowed : IsAllowed K start es (Taken n))
      (accepted : outcome K (run K start (record_of K start es)) n ≡ Ok f) where
    abbrev before : Machine E V W
    before = machine_after K start es

    abbrev after : Machine E V W
    after = took_by K before n (Ok f)

    stands : RepresentsTrace K start es before
    stands = machine_stands K total exact start es sound

    taken : RepresentsTrace K start (es ++ Taken n ∷ []) after
    taken = stands_taken K total exact start es before n after stands allowed
        (record {
          state = record { effect = f; accepted = same_outcome K total exact start es before stands n ∙ accepted; look = λ e. refl; logs = λ e. refl; opens = refl };
          status = λ g. refl;
          texts = λ t. refl;
        })

    pub value_stays : (e : E) → is_in K.order (map (λ w. w.0) f.written) e ≡ false
        → get (run K start (record_of K start (es ++ Taken n ∷ []))) e ≡ get (run K start (record_of K start es)) e
    value_stays e out =
        sym ((plain_run K total exact start (es ++ Taken n ∷ []) after taken).values e)
        ∙ written_other K.order f.written e (before.state.look e) out
        ∙ (plain_run K total exact start es before stands).values e

    pub tags_stay : (e : E) → is_in K.order (map (λ w. w.0) f.written) e ≡ false → computed (es ++ Taken n ∷ []) e ≡ computed es e
    tags_stay e out =
        sym (computed_are (es ++ Taken n ∷ []) after taken e)
        ∙ ap (λ b. last_tags [] (before.state.logs e ++ noted b (step_tags before.state (marked_effect K (K.mark n) (Ok f))) (before.state.look e) [])) out
        ∙ ap (last_tags []) (append-nil (before.state.logs e))
        ∙ computed_are es before stands e

    pub value_written : (e : E) → get (run K start (record_of K start (es ++ Taken n ∷ []))) e ≡ written_value K.order f.written e (get (run K start (record_of K start es)) e)
    value_written e =
        sym ((plain_run K total exact start (es ++ Taken n ∷ []) after taken).values e)
        ∙ ap (written_value K.order f.written e) ((plain_run K total exact start es before stands).values e)

    abbrev left : MarkedEffect E V W
    left = marked_effect K (K.mark n) (Ok f)

    tidy : IsTidy before.state
    tidy = tidy_of K total exact start (all_recorded K start no_record es) before.state stands.state

    pub tags_written : (e : E) → is_in K.order (map (λ w. w.0) f.written) e ≡ true → (g : ℕ)
        → has g (computed (es ++ Taken n ∷ []) e) ≡ (is_marked (K.mark n) g || list_any (λ x. has g (computed es x)) (touches left))
    tags_written e here g =
        let touched : Contains (touches left) e = in_from total exact (touches left) e (list_any-append (eq_by_cmp K.order e) (map (λ r. r.0) f.read) (map (λ w. w.0) f.written) ∙ or_right _ _ here) in
        ap (has g)
        (sym (computed_are (es ++ Taken n ∷ []) after taken e)
        ∙ ap (λ b. last_tags [] (before.state.logs e ++ noted b (step_tags before.state left) (before.state.look e) [])) here
        ∙ last_noted (step_tags before.state left) (before.state.look e) (before.state.logs e) (tidy_clean before.state left tidy e touched))
        ∙ in_step_tags before.state left tidy g
        ∙ (λ i. is_marked (K.mark n) g || list_any (λ x. has g (computed_are es before stands x i)) (touches left))

  module _ (es : List (Event N)) (g : ℕ) where
    -- a guess that has failed is not undecided
    pub none_rests : (e : E) → IsTagOf K start (es ++ Fail g ∷ []) e g → ⊥
    none_rests e is = is.0.1 (Contains-push es (Fail g))

    pub none_tagged : IsSound K start es → StatusIs K start es g Undecided → (e : E) → has g (computed (es ++ Fail g ∷ []) e) ≡ false
    none_tagged sound undecided e =
        let after = es ++ Fail g ∷ [] in
        let stands_after = machine_stands K total exact start after (sound_fail K start total exact es g sound undecided) in
        let m = machine_after K start after in
        false_from_ne_true (has g (computed after e)) (λ here. none_rests e (((plain_run K total exact start after m stands_after).tags e g).0 (ap (has g) (computed_are after m stands_after e) ∙ here)))
