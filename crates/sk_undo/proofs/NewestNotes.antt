-- What a commit's pass from the newest note back leaves.
use Rattle.sk_undo.proofs.Cites.{◌≡◌, ℕ, zero, suc, ◌<◌, ◌≤◌, ◌+◌, length, take, drop, true, false, cond, not, ◌&&◌}
use Rattle.sk_undo.proofs.Cites.{List, [], ◌∷◌, ◌++◌, Option, refl, sym, ◌∙◌, ap, subst, arith, reverse, slice_index_or}
use Rattle.sk_undo.proofs.Cites.{slice_set, list_all, prefix_len, true≢false, reverse-append, take-append-drop, has}
use Rattle.sk_undo.proofs.Cites.{without, and_both, RawNote, is_empty, CanGoBack, newest_tags, lightened}
use Rattle.sk_undo.proofs.Cites.{dropped, from_first, Grows}
use Rattle.sk_undo.proofs.Commits.{without_free, light_append, light_reverse, dropped_can}
use Rattle.sk_undo.proofs.SeenNotes.{all_front}
use Rattle.sk_undo.proofs.Growing.{AllRest, last_on, last_rests, newest_last, newest_is}

module _ {U : Type 0} where
  -- the notes from one place on are without the guess
  abbrev pub lightened_from : ℕ → ℕ → List (RawNote U) → List (RawNote U)
  lightened_from g i ns = take i ns ++ lightened g (drop i ns)

  pub from_end : (g : ℕ) (ns : List (RawNote U)) → ns ≡ lightened_from g (length ns) ns
  from_end g [] = refl
  from_end g (n ∷ ns) = ap (λ ys. n ∷ ys) (from_end g ns)

  -- and the note before it
  from_one : (g i : ℕ) (ns : List (RawNote U)) (n : RawNote U) → i < length ns → n ≡ slice_index_or (lightened_from g (suc i) ns) i n
      → slice_set (lightened_from g (suc i) ns) i (record { tags = without g n.tags; undo = n.undo }) ≡ lightened_from g i ns
  from_one g i [] n lt is = absurd (omega arith)
  from_one g zero (x ∷ ns) n lt is = ap (λ (y : RawNote U). record { tags = without g y.tags; undo = y.undo } ∷ lightened g ns) is
  from_one g (suc i) (x ∷ ns) n lt is = ap (λ ys. x ∷ ys) (from_one g i ns n (omega arith) is)

  pub from_before : (g i j : ℕ) (ns items : List (RawNote U)) (n : RawNote U) → i ≡ suc j → j < length ns → items ≡ lightened_from g i ns → n ≡ slice_index_or items j n
      → slice_set items j (record { tags = without g n.tags; undo = n.undo }) ≡ lightened_from g j ns
  from_before g i j ns items n next lt whole is =
      let all = whole ∙ ap (λ k. lightened_from g k ns) next in
      ap (λ ys. slice_set ys j (record { tags = without g n.tags; undo = n.undo })) all
      ∙ from_one g j ns n lt (is ∙ ap (λ ys. slice_index_or ys j n) all)

  -- the newest note before one place is that of the notes there
  at_place : (i j : ℕ) (g : ℕ) (ns : List (RawNote U)) (n : RawNote U) → j < length ns → n ≡ slice_index_or (lightened_from g (suc j) ns) j n → has g (last_on [] (take (suc j) ns)) ≡ has g n.tags
  at_place i j g ns n lt is = go [] j ns n lt is where
    go : (tags : List ℕ) (j : ℕ) (ns : List (RawNote U)) (n : RawNote U) → j < length ns → n ≡ slice_index_or (lightened_from g (suc j) ns) j n → has g (last_on tags (take (suc j) ns)) ≡ has g n.tags
    go tags j [] n lt is = absurd (omega arith)
    go tags zero (x ∷ ns) n lt is = ap (λ (y : RawNote U). has g y.tags) (sym is)
    go tags (suc j) (x ∷ ns) n lt is = go x.tags j ns n (omega arith) is

  rests_on_last : (g : ℕ) (ns : List (RawNote U)) → has g (newest_tags (reverse ns)) ≡ has g (last_on [] ns)
  rests_on_last g ns = ap (has g) (newest_is (reverse ns) ∙ newest_last [] ns)

  pub stops_there : (g i j : ℕ) (ns items : List (RawNote U)) (n : RawNote U) → i ≡ suc j → j < length ns → items ≡ lightened_from g i ns → n ≡ slice_index_or items j n → has g n.tags ≡ false
      → has g (newest_tags (reverse (take i ns))) ≡ false
  stops_there g i j ns items n next lt whole is none =
      let all = whole ∙ ap (λ k. lightened_from g k ns) next in
      ap (λ k. has g (newest_tags (reverse (take k ns)))) next ∙ rests_on_last g (take (suc j) ns) ∙ at_place i j g ns n lt (is ∙ ap (λ ys. slice_index_or ys j n) all) ∙ none

  -- the notes gone over depend on the guess
  pub none_gone_over : (g : ℕ) (ns : List (RawNote U)) → AllRest g (drop (length ns) ns)
  none_gone_over g [] = refl
  none_gone_over g (n ∷ ns) = none_gone_over g ns

  rests_before : (g j : ℕ) (ns : List (RawNote U)) (n : RawNote U) → j < length ns → n ≡ slice_index_or (lightened_from g (suc j) ns) j n → has g n.tags ≡ true → AllRest g (drop (suc j) ns) → AllRest g (drop j ns)
  rests_before g j [] n lt is here all = absurd (omega arith)
  rests_before g zero (x ∷ ns) n lt is here all = λ i. (ap (λ (y : RawNote U). has g y.tags) (sym is) ∙ here) i && all i
  rests_before g (suc j) (x ∷ ns) n lt is here all = rests_before g j ns n (omega arith) is here all

  pub rests_there : (g i j : ℕ) (ns items : List (RawNote U)) (n : RawNote U) → i ≡ suc j → j < length ns → items ≡ lightened_from g i ns → n ≡ slice_index_or items j n → has g n.tags ≡ true
      → AllRest g (drop i ns) → AllRest g (drop j ns)
  rests_there g i j ns items n next lt whole is here all =
      let same = whole ∙ ap (λ k. lightened_from g k ns) next in
      rests_before g j ns n lt (is ∙ ap (λ ys. slice_index_or ys j n) same) here (subst (λ k. AllRest g (drop k ns)) next all)

  -- ---- where each note depends on what those before it depend on, the others don't depend on the guess
  free_front : (g : ℕ) (tags : List ℕ) (xs ys : List (RawNote U)) → AllRest g (from_first g (xs ++ ys)) → has g (last_on tags xs) ≡ false → lightened g xs ≡ xs
  free_front g tags [] ys all none = refl
  free_front g tags (x ∷ xs) ys all none =
      elim (has g x.tags) as (λ b. has g x.tags ≡ b → AllRest g (cond b (x ∷ xs ++ ys) (from_first g (xs ++ ys))) → lightened g (x ∷ xs) ≡ x ∷ xs) [
        | true ↦ λ here all. absurd (true≢false (sym (last_rests g x.tags xs (all_front (λ (n : RawNote U). has g n.tags) xs ys (and_both _ _ all).1) here) ∙ none))
        | false ↦ λ free all.
            let same = without_free g x.tags free in
            let rest = free_front g x.tags xs ys all none in
            λ i. record { tags = same i; undo = x.undo } ∷ rest i
      ] refl all

  none_front : (g : ℕ) (tags : List ℕ) (xs ys : List (RawNote U)) → AllRest g (from_first g (xs ++ ys)) → has g (last_on tags xs) ≡ false → list_all (λ n. not (has g n.tags)) xs ≡ true
  none_front g tags [] ys all none = refl
  none_front g tags (x ∷ xs) ys all none =
      elim (has g x.tags) as (λ b. has g x.tags ≡ b → AllRest g (cond b (x ∷ xs ++ ys) (from_first g (xs ++ ys))) → list_all (λ n. not (has g n.tags)) (x ∷ xs) ≡ true) [
        | true ↦ λ here all. absurd (true≢false (sym (last_rests g x.tags xs (all_front (λ (n : RawNote U). has g n.tags) xs ys (and_both _ _ all).1) here) ∙ none))
        | false ↦ λ free all.
            let rest = none_front g x.tags xs ys all none in
            λ i. not (free i) && rest i
      ] refl all

  place_is : (g i : ℕ) (ns : List (RawNote U)) → list_all (λ n. not (has g n.tags)) (take i ns) ≡ true → AllRest g (drop i ns) → i ≤ length ns → i ≡ prefix_len (λ n. not (has g n.tags)) ns
  place_is g zero [] none all within = refl
  place_is g zero (n ∷ ns) none all within = sym (ap (λ b. cond (not b) (1 + prefix_len (λ n. not (has g n.tags)) ns) 0) (and_both _ _ all).0)
  place_is g (suc i) [] none all within = absurd (omega arith)
  place_is g (suc i) (n ∷ ns) none all within =
      let both = and_both (not (has g n.tags)) (list_all (λ n. not (has g n.tags)) (take i ns)) none in
      let next : i ≡ prefix_len (λ n. not (has g n.tags)) ns = place_is g i ns both.1 all (omega (arith, within)) in
      let one : suc i ≡ 1 + prefix_len (λ n. not (has g n.tags)) ns = omega (arith, next) in
      one ∙ sym (ap (λ b. cond b (1 + prefix_len (λ n. not (has g n.tags)) ns) 0) both.0)

  -- and the place where a pass ends is that of the first that does
  pub first_place : (g i : ℕ) (ns : List (RawNote U)) → has g (newest_tags (reverse (take i ns))) ≡ false → AllRest g (drop i ns) → i ≤ length ns → Grows ns → i ≡ prefix_len (λ n. not (has g n.tags)) ns
  first_place g i ns none all within grows =
      let parts = take-append-drop i ns in
      place_is g i ns (none_front g [] (take i ns) (drop i ns) (subst (λ ms. AllRest g (from_first g ms)) (sym parts) (grows g)) (sym (rests_on_last g (take i ns)) ∙ none)) all within

  pub whole_pass : (g i : ℕ) (ns : List (RawNote U)) → has g (newest_tags (reverse (take i ns))) ≡ false → Grows ns → lightened_from g i ns ≡ lightened g ns
  whole_pass g i ns none grows =
      let parts = take-append-drop i ns in
      let free = free_front g [] (take i ns) (drop i ns) (subst (λ ms. AllRest g (from_first g ms)) (sym parts) (grows g)) (sym (rests_on_last g (take i ns)) ∙ none) in
      ap (λ xs. xs ++ lightened g (drop i ns)) (sym free) ∙ sym (light_append g (take i ns) (drop i ns)) ∙ ap (lightened g) parts

  -- ---- the oldest notes
  pub dropped_is : (ns : List (RawNote U)) → drop (prefix_len (λ n. is_empty n.tags) ns) ns ≡ dropped ns
  dropped_is [] = refl
  dropped_is (n ∷ ns) =
      elim (is_empty n.tags) as (λ b. drop (cond b (1 + prefix_len (λ n. is_empty n.tags) ns) 0) (n ∷ ns) ≡ cond b (dropped ns) (n ∷ ns)) [
        | true ↦ ap (λ k. drop k (n ∷ ns)) (let next : 1 + prefix_len (λ n. is_empty n.tags) ns ≡ suc (prefix_len (λ n. is_empty n.tags) ns) = omega arith in next) ∙ dropped_is ns
        | false ↦ refl
      ]

  pub none_dropped : (ns : List (RawNote U)) (k : ℕ) → k ≡ prefix_len (λ n. is_empty n.tags) ns → k ≡ 0 → ns ≡ dropped ns
  none_dropped ns k is none = ap (λ k. drop k ns) (sym none ∙ is) ∙ dropped_is ns

  pub within_notes : (ns : List (RawNote U)) → prefix_len (λ n. is_empty n.tags) ns ≤ length ns
  within_notes [] = omega arith
  within_notes (n ∷ ns) =
      elim (is_empty n.tags) as (λ b. cond b (1 + prefix_len (λ n. is_empty n.tags) ns) 0 ≤ length (n ∷ ns)) [
        | true ↦ omega (arith, within_notes ns)
        | false ↦ omega arith
      ]

-- ---- what is left can still be undone
module _ {U V : Type 0} (fits : U → Option V → Type 0) (undone : U → Option V → Option V) where
  light_front : (g : ℕ) (v : Option V) (ns zs : List (RawNote U)) → CanGoBack fits undone v (ns ++ zs) → CanGoBack fits undone v (lightened g ns ++ zs)
  light_front g v [] zs can = can
  light_front g v (n ∷ ns) zs can = (can.0, light_front g (undone n.undo v) ns zs can.1)

  pass_can : (g i : ℕ) (v : Option V) (ns : List (RawNote U)) → CanGoBack fits undone v (reverse ns) → CanGoBack fits undone v (reverse (lightened_from g i ns))
  pass_can g i v ns can =
      let xs = take i ns in
      let ys = drop i ns in
      let parts : reverse ns ≡ reverse ys ++ reverse xs = ap reverse (sym (take-append-drop i ns)) ∙ reverse-append xs ys in
      subst (CanGoBack fits undone v) (ap (λ zs. zs ++ reverse xs) (sym (light_reverse g ys)) ∙ sym (reverse-append xs (lightened g ys)))
      (light_front g v (reverse ys) (reverse xs) (subst (CanGoBack fits undone v) parts can))

  pub commit_can : (g i : ℕ) (v : Option V) (ns : List (RawNote U)) → CanGoBack fits undone v (reverse ns) → CanGoBack fits undone v (reverse (dropped (lightened_from g i ns)))
  commit_can g i v ns can = dropped_can fits undone v (lightened_from g i ns) (pass_can g i v ns can)
