-- The runs of a process, noted on, cut, committed and joined, as the notes that they are seen as.
use Rattle.sk_undo.proofs.Cites.{◌≡◌, ℕ, zero, suc, length, Bool, true, false, cond, not, ◌&&◌, List, [], ◌∷◌, ◌++◌}
use Rattle.sk_undo.proofs.Cites.{Option, Some, None, inr, refl, sym, ◌∙◌, ap, subst, reverse, true≢false, exact_bytes}
use Rattle.sk_undo.proofs.Cites.{Process, PutBack, Was, Changed, Note, has, last_tags, cut, committed, IsGrowing}
use Rattle.sk_undo.proofs.Cites.{Merges, same_tags, merged, past, same_last, grow_in, committed_some, AllSome, and_both}
use Rattle.sk_undo.proofs.Cites.{RawNote, is_empty, log_of, CanGoBack, undone_by, FitsBy, restores, newest_tags}
use Rattle.sk_undo.proofs.Cites.{lightened, dropped, Grows, goes_unnoted_raw, joined_from, is_process_whole}
use Rattle.sk_undo.proofs.Cites.{was, run_of, runs_of, AllSet, is_apart, Undo}
use Rattle.sk_undo.proofs.SeenNotes.{tags_seen, all_more, all_reverse, grow_cut, last_onto}
use Rattle.sk_undo.proofs.Commits.{value_before, in_order, order_is, commit_seen, grow_commit, not_true}
use Rattle.std.proofs.lemmas.List.{map-append}
use Rattle.sk_undo.proofs.Growing.{grows_seen, grows_there}
use Rattle.sk_undo.proofs.Joins.{fits_any, all_joined}

-- ---- runs that are apart
module _ {V : Type 0} where
  pub apart_merged : (t : List ℕ) (ns : List (Note V)) → is_apart t (merged t ns) ≡ true
  apart_merged t [] = refl
  apart_merged t (n ∷ ns) =
      let out = apart_merged t ns in
      let on = apart_merged n.tags ns in
      elim (same_tags n.tags t) as (λ b. same_tags n.tags t ≡ b → is_apart t (cond b (merged t ns) (n ∷ merged n.tags ns)) ≡ true) [
        | true ↦ λ _. out
        | false ↦ λ is. (λ i. not (is i) && on i)
      ] refl

  apart_cut : (g : ℕ) (t : List ℕ) (ns : List (Note V)) → is_apart t ns ≡ true → is_apart t (cut g ns) ≡ true
  apart_cut g t [] apart = refl
  apart_cut g t (n ∷ ns) apart =
      let both = and_both _ _ apart in
      elim (has g n.tags) as (λ b. is_apart t (cond b [] (n ∷ cut g ns)) ≡ true) [
        | true ↦ refl
        | false ↦ λ j. both.0 j && apart_cut g n.tags ns both.1 j
      ]

  more_merged : (t : List ℕ) (ns : List (Note V)) (n : Note V) → is_apart t ns ≡ true → merged t (ns ++ n ∷ []) ≡ cond (same_tags n.tags (last_tags t ns)) ns (ns ++ n ∷ [])
  more_merged t [] n apart = refl
  more_merged t (x ∷ ns) n apart =
      let both = and_both _ _ apart in
      ap (λ b. cond b (merged t (ns ++ n ∷ [])) (x ∷ merged x.tags (ns ++ n ∷ []))) (not_true _ both.0)
      ∙ ap (λ xs. x ∷ xs) (more_merged x.tags ns n both.1)
      ∙ pick (same_tags n.tags (last_tags x.tags ns)) where
        pick : (b : Bool) → x ∷ cond b ns (ns ++ n ∷ []) ≡ cond b (x ∷ ns) (x ∷ ns ++ n ∷ [])
        pick true = refl
        pick false = refl

  apart_more : (t : List ℕ) (ns : List (Note V)) (n : Note V) → is_apart t ns ≡ true → same_tags n.tags (last_tags t ns) ≡ false → is_apart t (ns ++ n ∷ []) ≡ true
  apart_more t [] n apart other = ap (λ b. not b && true) other
  apart_more t (x ∷ ns) n apart other = let both = and_both _ _ apart in λ j. both.0 j && apart_more x.tags ns n both.1 other j

  pub merges_merged : (t : List ℕ) (ns : List (Note V)) → Merges t ns (merged t ns)
  merges_merged t [] = tt
  merges_merged t (n ∷ ns) =
      let out = merges_merged t ns in
      let on = merges_merged n.tags ns in
      elim (same_tags n.tags t) as (λ b. same_tags n.tags t ≡ b → Merges t (n ∷ ns) (cond b (merged t ns) (n ∷ merged n.tags ns))) [
        | true ↦ λ is. past t n ns (merged t ns) ((exact_bytes n.tags t).0 is) out
        | false ↦ λ _. inr (refl, on)
      ] refl

  pub newest_noted : (ns : List (Note V)) (n : Note V) → last_tags [] (merged [] (ns ++ n ∷ [])) ≡ n.tags
  newest_noted ns n = sym (same_last [] (ns ++ n ∷ []) (merged [] (ns ++ n ∷ [])) (merges_merged [] (ns ++ n ∷ []))) ∙ last_onto [] ns n

-- ---- notes that only set
abbrev unchanged : Process → Undo → Process
unchanged p undo = p

abbrev Fits : Process → Undo → Type 0
Fits p undo = Unit {0}

abbrev back : PutBack Process → Option Process → Option Process
back = undone_by unchanged

was_is : (undo : PutBack Process) (now : Option Process) → restores is_process_whole undo ≡ true → back undo now ≡ was undo
was_is (Was v) now h = refl
was_is (Changed undo) now h = absurd (true≢false (sym h))

order_runs : (now : Option Process) (ns : List (RawNote (PutBack Process))) → AllSet ns → in_order back now ns ≡ runs_of ns
order_runs now [] all = refl
order_runs now (n ∷ ns) all =
    let both = and_both _ _ all in
    λ i. record { tags = n.tags; before = was_is n.undo (value_before back now ns) both.0 i } ∷ order_runs now ns both.1 i

pub log_runs : (now : Option Process) (ns : List (RawNote (PutBack Process))) → AllSet ns → log_of back now ns ≡ runs_of ns
log_runs now ns all = order_is back now ns ∙ order_runs now ns all

can_set : (now : Option Process) (rs : List (RawNote (PutBack Process))) → AllSet rs → CanGoBack (FitsBy Fits) back now rs
can_set now [] all = tt
can_set now (r ∷ rs) all =
    let both = and_both _ _ all in
    (fits_any is_process_whole unchanged Fits r.undo now both.0, can_set (back r.undo now) rs both.1)

pub runs_can : (now : Option Process) (ns : List (RawNote (PutBack Process))) → AllSet ns → CanGoBack (FitsBy Fits) back now (reverse ns)
runs_can now ns all = can_set now (reverse ns) (all_reverse (λ n. restores is_process_whole n.undo) ns all)

-- the tags of the newest
pub newest_run : (ns : List (RawNote (PutBack Process))) → AllSet ns → newest_tags (reverse ns) ≡ last_tags [] (runs_of ns)
newest_run ns all = tags_seen back None (reverse ns) ∙ ap (last_tags []) (log_runs None ns all)

none_same : (tags : List ℕ) → is_empty tags ≡ same_tags tags []
none_same [] = refl
none_same (t ∷ tags) = refl

unnoted_newest : (tags : List ℕ) (rs : List (RawNote (PutBack Process))) → AllSet rs → goes_unnoted_raw is_process_whole tags rs ≡ same_tags tags (newest_tags rs)
unnoted_newest tags [] all = none_same tags
unnoted_newest tags (r ∷ rs) all = ap (λ b. b && same_tags tags r.tags) (and_both _ _ all).0

pub unnoted_run : (tags : List ℕ) (ns : List (RawNote (PutBack Process))) → AllSet ns → goes_unnoted_raw is_process_whole tags (reverse ns) ≡ same_tags tags (last_tags [] (runs_of ns))
unnoted_run tags ns all =
    unnoted_newest tags (reverse ns) (all_reverse (λ n. restores is_process_whole n.undo) ns all) ∙ ap (same_tags tags) (newest_run ns all)

-- ---- one more
pub length_runs : (ns : List (RawNote (PutBack Process))) → length ns ≡ length (runs_of ns)
length_runs [] = refl
length_runs (n ∷ ns) = ap suc (length_runs ns)

whole_before : (before : Option Process) → restores is_process_whole (Was before) ≡ true
whole_before None = refl
whole_before (Some p) = refl

-- one of the newest run, which is left out
module _ (tags : List ℕ) (before : Option Process) (ns : List (RawNote (PutBack Process))) (all : AllSet ns) (apart : is_apart [] (runs_of ns) ≡ true) where
  abbrev note : RawNote (PutBack Process)
  note = record { tags = tags; undo = Was before }

  pub left_out : goes_unnoted_raw is_process_whole tags (reverse ns) ≡ true → runs_of ns ≡ merged [] (runs_of ns ++ run_of note ∷ [])
  left_out is = sym (more_merged [] (runs_of ns) (run_of note) apart ∙ ap (λ b. cond b (runs_of ns) (runs_of ns ++ run_of note ∷ [])) (sym (unnoted_run tags ns all) ∙ is))

  other : goes_unnoted_raw is_process_whole tags (reverse ns) ≡ false → same_tags tags (last_tags [] (runs_of ns)) ≡ false
  other is = sym (unnoted_run tags ns all) ∙ is

  -- and one of a new run
  pub kept_more : goes_unnoted_raw is_process_whole tags (reverse ns) ≡ false → runs_of (ns ++ note ∷ []) ≡ merged [] (runs_of ns ++ run_of note ∷ [])
  kept_more is = map-append run_of ns (note ∷ []) ∙ sym (more_merged [] (runs_of ns) (run_of note) apart ∙ ap (λ b. cond b (runs_of ns) (runs_of ns ++ run_of note ∷ [])) (other is))

  pub apart_noted : goes_unnoted_raw is_process_whole tags (reverse ns) ≡ false → is_apart [] (runs_of (ns ++ note ∷ [])) ≡ true
  apart_noted is = ap (is_apart []) (map-append run_of ns (note ∷ [])) ∙ apart_more [] (runs_of ns) (run_of note) apart (other is)

  pub set_noted : AllSet (ns ++ note ∷ [])
  set_noted = all_more (λ (n : RawNote (PutBack Process)). restores is_process_whole n.undo) ns (note ∷ []) all (ap (λ b. b && true) (whole_before before))

-- ---- a failure
module _ (g : ℕ) (old new : Option Process) (ns ms : List (RawNote (PutBack Process))) (grows : Grows ns) (all : AllSet ns) (left : AllSet ms) where
  pub grows_whole : IsGrowing (log_of back old ns)
  grows_whole = grows_seen back old ns grows

  pub unwound_runs : log_of back new ms ≡ cut g (log_of back old ns) → runs_of ms ≡ cut g (runs_of ns)
  unwound_runs is = sym (log_runs new ms left) ∙ is ∙ ap (cut g) (log_runs old ns all)

  pub unwound_apart : is_apart [] (runs_of ns) ≡ true → log_of back new ms ≡ cut g (log_of back old ns) → is_apart [] (runs_of ms) ≡ true
  unwound_apart apart is = ap (is_apart []) (unwound_runs is) ∙ apart_cut g [] (runs_of ns) apart

  pub unwound_grows : log_of back new ms ≡ cut g (log_of back old ns) → Grows ms
  unwound_grows is = grows_there back new ms (subst IsGrowing (sym is) (grow_cut g (log_of back old ns) grows_whole))

-- ---- a commit
light_set : (g : ℕ) (ns : List (RawNote (PutBack Process))) → AllSet ns → AllSet (lightened g ns)
light_set g [] all = refl
light_set g (n ∷ ns) all = let both = and_both _ _ all in λ i. both.0 i && light_set g ns both.1 i

drop_set : (ns : List (RawNote (PutBack Process))) → AllSet ns → AllSet (dropped ns)
drop_set [] all = refl
drop_set (n ∷ ns) all = elim (is_empty n.tags) as (λ b. AllSet (cond b (dropped ns) (n ∷ ns))) [ true ↦ drop_set ns (and_both _ _ all).1 | false ↦ all ]

joined_runs : (p : RawNote (PutBack Process)) (ns : List (RawNote (PutBack Process))) → restores is_process_whole p.undo ≡ true → AllSet ns
    → runs_of (joined_from is_process_whole (Some p) zero ns) ≡ merged p.tags (runs_of ns)
joined_runs p [] one all = refl
joined_runs p (n ∷ ns) one all =
    let both = and_both _ _ all in
    let out = joined_runs p ns one both.1 in
    let on = joined_runs n ns both.0 both.1 in
    ap (λ r. runs_of (cond (r && same_tags n.tags p.tags) (joined_from is_process_whole (Some p) zero ns) (n ∷ joined_from is_process_whole (Some n) zero ns))) one
    ∙ elim (same_tags n.tags p.tags) as (λ b. runs_of (cond b (joined_from is_process_whole (Some p) zero ns) (n ∷ joined_from is_process_whole (Some n) zero ns)) ≡ cond b (merged p.tags (runs_of ns)) (run_of n ∷ merged n.tags (runs_of ns))) [
      | true ↦ out
      | false ↦ ap (λ xs. run_of n ∷ xs) on
    ]

not_bare : (tags : List ℕ) → (tags ≡ [] → ⊥) → same_tags tags [] ≡ false
not_bare [] some = absurd (some refl)
not_bare (t ∷ tags) some = refl

first_runs : (ns : List (RawNote (PutBack Process))) → AllSome (runs_of ns) → AllSet ns → runs_of (joined_from is_process_whole None zero ns) ≡ merged [] (runs_of ns)
first_runs [] some all = refl
first_runs (n ∷ ns) some all =
    let both = and_both _ _ all in
    ap (λ xs. run_of n ∷ xs) (joined_runs n ns both.0 both.1)
    ∙ ap (λ b. cond b (merged [] (runs_of ns)) (run_of n ∷ merged n.tags (runs_of ns))) (sym (not_bare n.tags some.0))

module _ (g : ℕ) (ns : List (RawNote (PutBack Process))) (grows : Grows ns) (all : AllSet ns) where
  abbrev left : List (RawNote (PutBack Process))
  left = dropped (lightened g ns)

  left_set : AllSet left
  left_set = drop_set (lightened g ns) (light_set g ns all)

  pub commit_set : AllSet (joined_from is_process_whole None zero left)
  commit_set = all_joined is_process_whole (λ n. restores is_process_whole n.undo) None zero left left_set

  left_runs : runs_of left ≡ committed g (runs_of ns)
  left_runs = sym (log_runs None left left_set) ∙ commit_seen back g ns None (grows_seen back None ns grows) ∙ ap (committed g) (log_runs None ns all)

  pub commit_runs : runs_of (joined_from is_process_whole None zero left) ≡ merged [] (committed g (runs_of ns))
  commit_runs = first_runs left (subst AllSome (sym left_runs) (committed_some g (runs_of ns))) left_set ∙ ap (merged []) left_runs

  pub commit_grows : Grows (joined_from is_process_whole None zero left)
  commit_grows =
      let runs : IsGrowing (runs_of ns) = subst IsGrowing (log_runs None ns all) (grows_seen back None ns grows) in
      let after : IsGrowing (merged [] (committed g (runs_of ns))) = λ h. grow_in h [] (committed g (runs_of ns)) (merged [] (committed g (runs_of ns))) refl (merges_merged [] (committed g (runs_of ns))) (grow_commit g (runs_of ns) runs h) in
      grows_there back None (joined_from is_process_whole None zero left) (subst IsGrowing (sym (log_runs None (joined_from is_process_whole None zero left) commit_set ∙ commit_runs)) after)
