-- A log that keeps one note for neighbouring writes with equal tags unwinds, cuts, commits and tells tags as the whole log does.
use Rattle.sk_record.proofs.Names.{◌≡◌, ℕ, true, false, cond, ◌&&◌, ◌||◌, List, [], ◌∷◌, ◌++◌, map, Option, Some, Ok}
use Rattle.sk_record.proofs.Names.{inl, inr, refl, sym, ◌∙◌, ap, subst, ◌↔◌, IsStrictlyIncreasing, list_any, list_all}
use Rattle.sk_record.proofs.Names.{filter, IsTotalOrder, FinMap, IsAntisymmetric, perform, MarkedEffect, is_in}
use Rattle.sk_record.proofs.Names.{is_marked, writes, touches, written_value, System, marked_effect, said_by, Note, has}
use Rattle.sk_record.proofs.Names.{without, noted, last_tags, cut, carried, unwound, committed, Event, Taken, Commit}
use Rattle.sk_record.proofs.Names.{Fail, Undecided, StatusIs, IsAllowed, IsTagOf, marks, numbers, tags_at, step_tags}
use Rattle.sk_record.proofs.Names.{opened, still_open, not_struck, IsTidy, IsGrowing, Machine, IsPlainRun, Fails, moved}
use Rattle.sk_record.proofs.Names.{took_by, released, lightened, not_dropped, with_status, with_drawn, with_failure}
use Rattle.sk_record.proofs.Names.{StatusCommitted, IsReleased, Merges, IsMergedOf, MergedTakes, MergedCommits}
use Rattle.sk_record.proofs.Names.{MergedStands}
use Rattle.sk_record.proofs.UndoStates.{and_both}
use Rattle.sk_record.proofs.Tidy.{AllSome, noted_some}
use Rattle.sk_record.proofs.MachineRuns as whole

module _ {V : Type 0} where
  -- ---- building
  pub past : (t : List ℕ) (n : Note V) (ns ms : List (Note V)) → n.tags ≡ t → Merges t ns ms → Merges t (n ∷ ns) ms
  past t n ns [] same h = (same, h)
  past t n ns (m ∷ ms) same h = inl (same, h)

  pub all_kept : (t : List ℕ) (ns : List (Note V)) → Merges t ns ns
  all_kept t [] = tt
  all_kept t (n ∷ ns) = inr (refl, all_kept n.tags ns)

  -- one more note that has the tags of the last
  pub left_out : (t : List ℕ) (ns : List (Note V)) (n : Note V) → last_tags t ns ≡ n.tags → Merges t (ns ++ n ∷ []) ns
  left_out t [] n same = (sym same, tt)
  left_out t (x ∷ ns) n same = inr (refl, left_out x.tags ns n same)

  -- more notes at the end of both
  pub both_more : (t : List ℕ) (ns ms xs : List (Note V)) → Merges t ns ms → Merges t (ns ++ xs) (ms ++ xs)
  both_more t [] [] xs h = all_kept t xs
  both_more t [] (m ∷ ms) xs h = absurd h
  both_more t (n ∷ ns) [] xs h = past t n (ns ++ xs) xs h.0 (both_more t ns [] xs h.1)
  both_more t (n ∷ ns) (m ∷ ms) xs (inl h) = inl (h.0, both_more t ns (m ∷ ms) xs h.1)
  both_more t (n ∷ ns) (m ∷ ms) xs (inr h) = inr (h.0, both_more n.tags ns ms xs h.1)

  pub in_turn : (t : List ℕ) (xs ys zs : List (Note V)) → Merges t xs ys → Merges t ys zs → Merges t xs zs
  in_turn t [] [] zs h k = k
  in_turn t [] (b ∷ ys) zs h k = absurd h
  in_turn t (a ∷ xs) [] [] h k = (h.0, in_turn t xs [] [] h.1 k)
  in_turn t (a ∷ xs) [] (c ∷ zs) h k = absurd k
  in_turn t (a ∷ xs) (b ∷ ys) zs (inl h) k = past t a xs zs h.0 (in_turn t xs (b ∷ ys) zs h.1 k)
  in_turn t (a ∷ xs) (b ∷ ys) [] (inr h) k =
      let same : a.tags ≡ t = ap (λ (n : Note V). n.tags) (sym h.0) ∙ k.0 in
      (same, in_turn t xs ys [] (subst (λ s. Merges s xs ys) same h.1) k.1)
  in_turn t (a ∷ xs) (b ∷ ys) (c ∷ zs) (inr h) (inl k) =
      let same : a.tags ≡ t = ap (λ (n : Note V). n.tags) (sym h.0) ∙ k.0 in
      inl (same, in_turn t xs ys (c ∷ zs) (subst (λ s. Merges s xs ys) same h.1) k.1)
  in_turn t (a ∷ xs) (b ∷ ys) (c ∷ zs) (inr h) (inr k) =
      inr (k.0 ∙ h.0, in_turn a.tags xs ys zs h.1 (subst (λ (n : Note V). Merges n.tags ys zs) h.0 k.1))

  -- ---- reading
  pub none_left : (t : List ℕ) (ms : List (Note V)) → Merges t [] ms → ms ≡ []
  none_left t [] h = refl
  none_left t (m ∷ ms) h = absurd h

  pub same_last : (t : List ℕ) (ns ms : List (Note V)) → Merges t ns ms → last_tags t ns ≡ last_tags t ms
  same_last t [] [] h = refl
  same_last t [] (m ∷ ms) h = absurd h
  same_last t (n ∷ ns) [] h = ap (λ s. last_tags s ns) h.0 ∙ same_last t ns [] h.1
  same_last t (n ∷ ns) (m ∷ ms) (inl h) = ap (λ s. last_tags s ns) h.0 ∙ same_last t ns (m ∷ ms) h.1
  same_last t (n ∷ ns) (m ∷ ms) (inr h) = same_last n.tags ns ms h.1 ∙ ap (λ (x : Note V). last_tags x.tags ms) (sym h.0)

  pub same_unwound : (g : ℕ) (t : List ℕ) (ns ms : List (Note V)) (now : Option V) → has g t ≡ false → Merges t ns ms → unwound g ns now ≡ unwound g ms now
  same_unwound g t [] [] now none h = refl
  same_unwound g t [] (m ∷ ms) now none h = absurd h
  same_unwound g t (n ∷ ns) [] now none h =
      ap (λ b. cond b n.before (unwound g ns now)) (ap (has g) h.0 ∙ none) ∙ same_unwound g t ns [] now none h.1
  same_unwound g t (n ∷ ns) (m ∷ ms) now none (inl h) =
      ap (λ b. cond b n.before (unwound g ns now)) (ap (has g) h.0 ∙ none) ∙ same_unwound g t ns (m ∷ ms) now none h.1
  same_unwound g t (n ∷ ns) (m ∷ ms) now none (inr h) =
      elim (has g n.tags) as (λ b. has g n.tags ≡ b → cond b n.before (unwound g ns now) ≡ cond b n.before (unwound g ms now)) [
        | true ↦ λ _. refl
        | false ↦ λ off. same_unwound g n.tags ns ms now off h.1
      ] refl
      ∙ ap (λ (x : Note V). cond (has g x.tags) x.before (unwound g ms now)) (sym h.0)

  pub both_cut : (g : ℕ) (t : List ℕ) (ns ms : List (Note V)) → has g t ≡ false → Merges t ns ms → Merges t (cut g ns) (cut g ms)
  both_cut g t [] [] none h = tt
  both_cut g t [] (m ∷ ms) none h = absurd h
  both_cut g t (n ∷ ns) [] none h =
      subst (λ b. Merges t (cond b [] (n ∷ cut g ns)) []) (sym (ap (has g) h.0 ∙ none)) (h.0, both_cut g t ns [] none h.1)
  both_cut g t (n ∷ ns) (m ∷ ms) none (inl h) =
      subst (λ b. Merges t (cond b [] (n ∷ cut g ns)) (cut g (m ∷ ms))) (sym (ap (has g) h.0 ∙ none)) (past t n (cut g ns) (cut g (m ∷ ms)) h.0 (both_cut g t ns (m ∷ ms) none h.1))
  both_cut g t (n ∷ ns) (m ∷ ms) none (inr h) =
      subst (λ (x : Note V). Merges t (cut g (n ∷ ns)) (cond (has g x.tags) [] (x ∷ cut g ms))) (sym h.0)
      (elim (has g n.tags) as (λ b. has g n.tags ≡ b → Merges t (cond b [] (n ∷ cut g ns)) (cond b [] (n ∷ cut g ms))) [
        | true ↦ λ _. tt
        | false ↦ λ off. inr (refl, both_cut g n.tags ns ms off h.1)
      ] refl)

  -- what a merged log has, the whole log has
  pub all_in : (g : ℕ) (t : List ℕ) (ns ms : List (Note V)) → Merges t ns ms → list_all (λ n. has g n.tags) ns ≡ true → list_all (λ n. has g n.tags) ms ≡ true
  all_in g t [] [] h all = refl
  all_in g t [] (m ∷ ms) h all = absurd h
  all_in g t (n ∷ ns) [] h all = refl
  all_in g t (n ∷ ns) (m ∷ ms) (inl h) all = all_in g t ns (m ∷ ms) h.1 (and_both _ _ all).1
  all_in g t (n ∷ ns) (m ∷ ms) (inr h) all =
      let both = and_both _ _ all in
      λ i. (ap (λ (x : Note V). has g x.tags) h.0 ∙ both.0) i && all_in g n.tags ns ms h.1 both.1 i

  pub grow_in : (g : ℕ) (t : List ℕ) (ns ms : List (Note V)) → has g t ≡ false → Merges t ns ms → list_all (λ n. has g n.tags) (carried g ns) ≡ true → list_all (λ n. has g n.tags) (carried g ms) ≡ true
  grow_in g t [] [] none h all = refl
  grow_in g t [] (m ∷ ms) none h all = absurd h
  grow_in g t (n ∷ ns) [] none h all = refl
  grow_in g t (n ∷ ns) (m ∷ ms) none (inl h) all =
      grow_in g t ns (m ∷ ms) none h.1 (subst (λ b. list_all (λ n. has g n.tags) (cond b (n ∷ ns) (carried g ns)) ≡ true) (ap (has g) h.0 ∙ none) all)
  grow_in g t (n ∷ ns) (m ∷ ms) none (inr h) all =
      subst (λ (x : Note V). list_all (λ n. has g n.tags) (cond (has g x.tags) (x ∷ ms) (carried g ms)) ≡ true) (sym h.0)
      (elim (has g n.tags) as (λ b. has g n.tags ≡ b → list_all (λ n. has g n.tags) (cond b (n ∷ ns) (carried g ns)) ≡ true → list_all (λ n. has g n.tags) (cond b (n ∷ ms) (carried g ms)) ≡ true) [
        | true ↦ λ _ all. all_in g t (n ∷ ns) (n ∷ ms) (inr (refl, h.1)) all
        | false ↦ λ off all. grow_in g n.tags ns ms off h.1 all
      ] refl all)

  pub some_in : (t : List ℕ) (ns ms : List (Note V)) → Merges t ns ms → AllSome ns → AllSome ms
  some_in t [] [] h all = tt
  some_in t [] (m ∷ ms) h all = absurd h
  some_in t (n ∷ ns) [] h all = tt
  some_in t (n ∷ ns) (m ∷ ms) (inl h) all = some_in t ns (m ∷ ms) h.1 all.1
  some_in t (n ∷ ns) (m ∷ ms) (inr h) all = ((λ none. all.0 (ap (λ (x : Note V). x.tags) (sym h.0) ∙ none)), some_in n.tags ns ms h.1 all.1)

  -- ---- a commit
  pub committed_some : (g : ℕ) (ns : List (Note V)) → AllSome (committed g ns)
  committed_some g [] = tt
  committed_some g (n ∷ ns) = noted_some true (without g n.tags) n.before (committed g ns) (committed_some g ns)

  -- a log whose notes all depend on something leaves none out before its first
  any_first : (t : List ℕ) (ns ms : List (Note V)) → AllSome ns → Merges [] ns ms → Merges t ns ms
  any_first t [] [] all h = tt
  any_first t [] (m ∷ ms) all h = absurd h
  any_first t (n ∷ ns) [] all h = absurd (all.0 h.0)
  any_first t (n ∷ ns) (m ∷ ms) all (inl h) = absurd (all.0 h.0)
  any_first t (n ∷ ns) (m ∷ ms) all (inr h) = inr h

  noted_past : (t left : List ℕ) (v : Option V) (rest ms : List (Note V)) → left ≡ t → Merges t rest ms → Merges t (noted true left v rest) ms
  noted_past t [] v rest ms same h = h
  noted_past t (x ∷ left) v rest ms same h = past t (record { tags = x ∷ left; before = v }) rest ms same h

  noted_both : (t left : List ℕ) (v : Option V) (ns ms : List (Note V)) → AllSome ns → Merges left ns ms → Merges t (noted true left v ns) (noted true left v ms)
  noted_both t [] v ns ms all h = any_first t ns ms all h
  noted_both t (x ∷ left) v ns ms all h = inr (refl, h)

  pub both_committed : (g : ℕ) (t : List ℕ) (ns ms : List (Note V)) → Merges t ns ms → Merges (without g t) (committed g ns) (committed g ms)
  both_committed g t [] [] h = tt
  both_committed g t [] (m ∷ ms) h = absurd h
  both_committed g t (n ∷ ns) [] h =
      noted_past (without g t) (without g n.tags) n.before (committed g ns) [] (ap (without g) h.0) (both_committed g t ns [] h.1)
  both_committed g t (n ∷ ns) (m ∷ ms) (inl h) =
      noted_past (without g t) (without g n.tags) n.before (committed g ns) (committed g (m ∷ ms)) (ap (without g) h.0) (both_committed g t ns (m ∷ ms) h.1)
  both_committed g t (n ∷ ns) (m ∷ ms) (inr h) =
      subst (λ (x : Note V). Merges (without g t) (committed g (n ∷ ns)) (noted true (without g x.tags) x.before (committed g ms))) (sym h.0)
      (noted_both (without g t) (without g n.tags) n.before (committed g ns) (committed g ms) (committed_some g ns) (both_committed g n.tags ns ms h.1))

-- ---- machines
module _ {E V W : Type 0} (a b : Machine E V W) (merged : IsMergedOf a b) where
  pub same_tags : (e : E) → tags_at b.state e ≡ tags_at a.state e
  same_tags e = sym (same_last [] (a.state.logs e) (b.state.logs e) (merged.logs e))

  pub same_step_tags : (f : MarkedEffect E V W) → step_tags b.state f ≡ step_tags a.state f
  same_step_tags f = λ i. filter (λ g. is_marked f.mark g || list_any (λ e. has g (same_tags e i)) (touches f)) (numbers (merged.opens i) ++ marks f.mark)

  pub tidy_in : IsTidy a.state → IsTidy b.state
  tidy_in tidy = record {
    clean = λ e none. none_left [] (b.state.logs e) (subst (λ ns. Merges [] ns (b.state.logs e)) (tidy.clean e (sym (same_tags e) ∙ none)) (merged.logs e));
    known = λ e g here. ap (λ os. has g (numbers os)) merged.opens ∙ tidy.known e g (ap (has g) (sym (same_tags e)) ∙ here);
  }

  pub growing_in : (e : E) → IsGrowing (a.state.logs e) → IsGrowing (b.state.logs e)
  growing_in e grows g = grow_in g [] (a.state.logs e) (b.state.logs e) refl (merged.logs e) (grows g)

module _ {E V W F N : Type 0} (K : System E V W F N) (total : IsTotalOrder K.order) (exact : IsAntisymmetric K.order) (start : FinMap K.order V) where
  -- what stands for a trace, but for notes that are left out, is what the plain kernel makes of the trace's record
  pub merged_run : (es : List (Event N)) (m : Machine E V W) → MergedStands K start es m → IsPlainRun K start es m
  merged_run es m s =
      let run = whole.plain_run K total exact start es s.full s.stands in
      let of = s.merged in
      record {
        values = λ e. of.look e ∙ run.values e;
        tags = λ e g. subst (λ tags. (has g tags ≡ true) ↔ IsTagOf K start es e g) (sym (same_tags s.full m of e)) (run.tags e g);
        statuses = λ g status. subst (λ o. (o ≡ Some status) ↔ StatusIs K start es g status) (sym (of.status g)) (run.statuses g status);
        opens = ap numbers of.opens ∙ run.opens;
        rising = subst (λ os. IsStrictlyIncreasing (numbers os)) (sym of.opens) run.rising;
        texts = λ t. ap (λ xs. map (λ x. x.0) xs) (of.texts t) ∙ run.texts t;
        releases = λ t. subst (λ xs. IsReleased K start es t (released xs)) (sym (of.texts t)) (run.releases t);
      }

  pub merged_taken : (es : List (Event N)) (m : Machine E V W) (n : N) (b : Machine E V W) → MergedStands K start es m → IsAllowed K start es (Taken n) → MergedTakes K m n b → MergedStands K start (es ++ Taken n ∷ []) b
  merged_taken es m n b s allowed t =
      let a = s.full in
      let of = s.merged in
      let f : MarkedEffect E V W = marked_effect K (K.mark n) (Ok t.effect) in
      let accepted : perform a.state.look (K.act n) ≡ Ok t.effect = (λ i. perform (λ e. sym (of.look e) i) (K.act n)) ∙ t.accepted in
      let tags = same_step_tags a m of f in
      record {
        full = took_by K a n (Ok t.effect);
        stands = whole.stands_taken K total exact start es a n (took_by K a n (Ok t.effect)) s.stands allowed
            (record { state = record { effect = t.effect; accepted = accepted; look = λ e. refl; logs = λ e. refl; opens = refl }; status = λ g. refl; texts = λ t. refl });
        merged = record {
          look = λ e. t.look e ∙ ap (written_value K.order t.effect.written e) (of.look e);
          logs = λ e.
              in_turn [] _ _ _ (both_more [] (a.state.logs e) (m.state.logs e) (noted (is_in K.order (writes f) e) (step_tags a.state f) (a.state.look e) []) (of.logs e))
              (subst (λ xs. Merges [] (m.state.logs e ++ xs) (b.state.logs e)) (λ i. noted (is_in K.order (writes f) e) (tags i) (of.look e i) []) (t.logs e));
          opens = t.opens ∙ (λ i. of.opens i ++ opened (K.mark n) (tags i));
          status = λ g. t.status g ∙ (λ i. with_drawn (K.mark n) (λ h. of.status h i) g);
          texts = λ x. t.texts x ∙ (λ i. of.texts x i ++ said_by K x t.effect.said (tags i));
        };
      }

  pub merged_committed : (es : List (Event N)) (m : Machine E V W) (c : ℕ) (b : Machine E V W) → MergedStands K start es m → StatusIs K start es c Undecided → MergedCommits m c b → MergedStands K start (es ++ Commit c ∷ []) b
  merged_committed es m c b s is_open t =
      let a = s.full in
      let of = s.merged in
      record {
        full = moved K a (Commit c);
        stands = whole.stands_committed K total exact start es a c (moved K a (Commit c)) s.stands is_open
            (record { state = record { look = λ e. refl; logs = λ e. refl; opens = refl }; status = λ g. refl; texts = λ t. refl });
        merged = record {
          look = λ e. t.look e ∙ of.look e;
          logs = λ e. in_turn [] _ _ _ (both_committed c [] (a.state.logs e) (m.state.logs e) (of.logs e)) (t.logs e);
          opens = t.opens ∙ ap (still_open c) of.opens;
          status = λ g. t.status g ∙ (λ i. with_status c StatusCommitted (λ h. of.status h i) g);
          texts = λ x. t.texts x ∙ ap (lightened c) (of.texts x);
        };
      }

  -- a failure unwinds the merged logs just as the whole ones
  pub merged_failed : (es : List (Event N)) (m : Machine E V W) (c : ℕ) (b : Machine E V W) → MergedStands K start es m → StatusIs K start es c Undecided → Fails m c b → MergedStands K start (es ++ Fail c ∷ []) b
  merged_failed es m c b s is_open t =
      let a = s.full in
      let of = s.merged in
      record {
        full = moved K a (Fail c);
        stands = whole.stands_failed K total exact start es a c (moved K a (Fail c)) s.stands is_open
            (record { state = record { look = λ e. refl; logs = λ e. refl; opens = refl }; status = λ g. refl; texts = λ t. refl });
        merged = record {
          look = λ e. t.state.look e ∙ sym (same_unwound c [] (a.state.logs e) (m.state.logs e) (m.state.look e) refl (of.logs e)) ∙ ap (unwound c (a.state.logs e)) (of.look e);
          logs = λ e. subst (λ ns. Merges [] (cut c (a.state.logs e)) ns) (sym (t.state.logs e)) (both_cut c [] (a.state.logs e) (m.state.logs e) refl (of.logs e));
          opens = t.state.opens ∙ ap (not_struck c) of.opens;
          status = λ g. t.status g ∙ (λ i. with_failure c (of.opens i) (λ h. of.status h i) g);
          texts = λ x. t.texts x ∙ ap (not_dropped c) (of.texts x);
        };
      }
