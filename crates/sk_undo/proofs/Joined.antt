-- What a commit leaves of the notes that are there, as it is seen.
use Rattle.sk_undo.proofs.Cites.{◌≡◌, ℕ, zero, suc, ◌+◌, true, false, cond, not, ◌&&◌, ◌||◌, List, [], ◌∷◌, Option}
use Rattle.sk_undo.proofs.Cites.{Some, None, refl, sym, ◌∙◌, ap, subst, arith, ◌==◌, reverse, list_all, prefix_len}
use Rattle.sk_undo.proofs.Cites.{true≢false, or_left, or_parts, eq-eqb, reverse-reverse, Note, has, without, noted}
use Rattle.sk_undo.proofs.Cites.{committed, same_tags, merged, IsGrowing, and_both, has_filter, NoteFits, state_undone}
use Rattle.sk_undo.proofs.Cites.{EntityState, PutBack, RawNote, is_empty, seen, CanGoBack, EachRests, is_covered}
use Rattle.sk_undo.proofs.Cites.{joined_from, lightened, dropped, carries, undone, Fits, is_held_whole, is_whole}
use Rattle.sk_undo.proofs.Cites.{is_needless, joined, committed_joined, is_apart}
use Rattle.sk_undo.proofs.SeenNotes.{AllSeen, grow_head}
use Rattle.sk_undo.proofs.Commits.{value_before, in_order, order_is, without_free, none_gone, light_before, commit_order, is_settled, all_settled, kept_one, not_true}
use Rattle.sk_undo.proofs.Joins.{CanInOrder, in_turn, note_same, same_before}
use Rattle.sk_undo.proofs.Stable.{whole_is}

abbrev Raw : Type 0
Raw = RawNote (PutBack EntityState)

abbrev Can : Option EntityState → List Raw → Type 0
Can = CanInOrder is_held_whole state_undone NoteFits

-- a note that is there, seen over those after it
abbrev seen_one : Option EntityState → Raw → List Raw → Note EntityState
seen_one now n ns = record { tags = n.tags; before = undone n.undo (value_before undone now ns) }

-- the one stands for the same later notes as the other
abbrev Agree : Option Raw → Option (Note EntityState) → Type 0
Agree p q = (tags : List ℕ) → is_covered is_held_whole p tags ≡ is_needless q tags

agree_one : (now : Option EntityState) (n : Raw) (ns : List Raw) → Fits n.undo (value_before undone now ns) → Agree (Some n) (Some (seen_one now n ns))
agree_one now n ns fits tags = ap (λ b. b && same_tags tags n.tags) (whole_is n.undo (value_before undone now ns) fits)

-- ---- notes joined from one on
joined_seen : (now : Option EntityState) (p : Option Raw) (q : Option (Note EntityState)) (ns : List Raw) → Agree p q → Can now ns
    → in_order undone now (joined_from is_held_whole p zero ns) ≡ joined q (in_order undone now ns)
joined_seen now p q [] agree can = refl
joined_seen now p q (n ∷ ns) agree can =
    let m = seen_one now n ns in
    let out = joined_seen now p q ns agree can.1 in
    let on = joined_seen now (Some n) (Some m) ns (agree_one now n ns can.0) can.1 in
    elim (is_covered is_held_whole p n.tags) as (λ b.
    in_order undone now (cond b (joined_from is_held_whole p zero ns) (n ∷ joined_from is_held_whole (Some n) zero ns)) ≡ cond b (joined q (in_order undone now ns)) (m ∷ joined (Some m) (in_order undone now ns))) [
      | true ↦ out
      | false ↦ (λ i. note_same is_held_whole state_undone NoteFits now n zero ns i ∷ on i)
    ]
    ∙ ap (λ b. cond b (joined q (in_order undone now ns)) (m ∷ joined (Some m) (in_order undone now ns))) (agree n.tags)

-- ---- notes that can be undone, with the guess out of them, and without those that then depend on nothing
light_can : (g : ℕ) (now : Option EntityState) (ns : List Raw) → Can now ns → Can now (lightened g ns)
light_can g now [] can = tt
light_can g now (n ∷ ns) can = (subst (Fits n.undo) (sym (light_before undone g now ns)) can.0, light_can g now ns can.1)

drop_can : (now : Option EntityState) (ns : List Raw) → Can now ns → Can now (dropped ns)
drop_can now [] can = tt
drop_can now (n ∷ ns) can = elim (is_empty n.tags) as (λ b. Can now (cond b (dropped ns) (n ∷ ns))) [ true ↦ drop_can now ns can.1 | false ↦ can ]

-- ---- from the first note that depends on the guess
abbrev place : ℕ → List Raw → ℕ
place g ns = prefix_len (λ n. not (has g n.tags)) ns

front_seen : (g t : ℕ) (now : Option EntityState) (p : Option Raw) (q : Option (Note EntityState)) (ns : List Raw) → Agree p q → Can now ns → not (t == g) ≡ true → AllSeen t (in_order undone now ns)
    → in_order undone now (joined_from is_held_whole p (place g ns) (lightened g ns)) ≡ committed_joined g q (in_order undone now ns)
front_seen g t now p q [] agree can other all = refl
front_seen g t now p q (n ∷ ns) agree can other all =
    let both = and_both _ _ all in
    let m = seen_one now n ns in
    let light : Raw = record { tags = without g n.tags; undo = n.undo } in
    elim (has g n.tags) as (λ b. has g n.tags ≡ b
    → in_order undone now (joined_from is_held_whole p (cond (not b) (1 + place g ns) 0) (lightened g (n ∷ ns))) ≡ cond b (joined q (committed g (in_order undone now (n ∷ ns)))) (m ∷ committed_joined g (Some m) (in_order undone now ns))) [
      | true ↦ λ _. joined_seen now p q (lightened g (n ∷ ns)) agree (light_can g now (n ∷ ns) can) ∙ ap (joined q) (none_gone undone g t (n ∷ ns) now other all)
      | false ↦ λ free.
          let same = without_free g n.tags free in
          let next : 1 + place g ns ≡ suc (place g ns) = omega arith in
          let was = same_before is_held_whole state_undone NoteFits now light (place g ns) (lightened g ns) ∙ ap (undone n.undo) (light_before undone g now ns) in
          let agreed : Agree (Some light) (Some m) = λ tags. ap (λ b. b && same_tags tags (without g n.tags)) (whole_is n.undo (value_before undone now ns) can.0) ∙ ap (λ ts. is_whole m.before && same_tags tags ts) same in
          let rest = front_seen g t now (Some light) (Some m) ns agreed can.1 other both.1 in
          ap (λ k. in_order undone now (joined_from is_held_whole p k (lightened g (n ∷ ns)))) next
          ∙ (λ i. record { tags = same i; before = was i } ∷ rest i)
    ] refl

-- ---- the whole
some_tag : (tags : List ℕ) → not (is_empty tags) ≡ true → (t : ℕ) × (has t tags ≡ true)
some_tag [] some = absurd (true≢false (sym some))
some_tag (t ∷ tags) some = (t, or_left _ _ (eq-eqb t t refl))

another : (g t : ℕ) (tags : List ℕ) → has g tags ≡ false → has t tags ≡ true → not (t == g) ≡ true
another g t tags free here = (and_both (not (t == g)) (has t tags) (sym (has_filter (λ t. not (t == g)) t tags) ∙ ap (has t) (without_free g tags free) ∙ here)).0

whole_seen : (g : ℕ) (now : Option EntityState) (ns : List Raw) → Can now ns → IsGrowing (in_order undone now ns) → EachRests (in_order undone now ns)
    → in_order undone now (joined_from is_held_whole None (place g ns) (dropped (lightened g ns))) ≡ committed_joined g None (in_order undone now ns)
whole_seen g now [] can grows rests = refl
whole_seen g now (n ∷ ns) can grows rests =
    let m = seen_one now n ns in
    let some = (and_both _ _ rests).0 in
    elim (has g n.tags) as (λ b. has g n.tags ≡ b → in_order undone now (joined_from is_held_whole None (place g (n ∷ ns)) (dropped (lightened g (n ∷ ns)))) ≡ committed_joined g None (in_order undone now (n ∷ ns))) [
      | true ↦ λ here.
          ap (λ b. in_order undone now (joined_from is_held_whole None (cond (not b) (1 + place g ns) 0) (dropped (lightened g (n ∷ ns))))) here
          ∙ joined_seen now None None (dropped (lightened g (n ∷ ns))) (λ _. refl) (drop_can now (lightened g (n ∷ ns)) (light_can g now (n ∷ ns) can))
          ∙ ap (joined None) (commit_order undone g (n ∷ ns) now grows)
          ∙ sym (ap (λ b. cond b (joined None (committed g (in_order undone now (n ∷ ns)))) (m ∷ committed_joined g (Some m) (in_order undone now ns))) here)
      | false ↦ λ free.
          let one = some_tag n.tags some in
          let full : is_empty (without g n.tags) ≡ false = ap is_empty (without_free g n.tags free) ∙ not_true (is_empty n.tags) some in
          let all = grow_head m (in_order undone now ns) grows one.0 one.1 in
          ap (λ b. in_order undone now (joined_from is_held_whole None (place g (n ∷ ns)) (cond b (dropped (lightened g ns)) (lightened g (n ∷ ns))))) full
          ∙ front_seen g one.0 now None None (n ∷ ns) (λ _. refl) can (another g one.0 n.tags free one.1) (λ i. one.1 i && all i)
    ] refl

pub commit_joined : (g : ℕ) (now : Option EntityState) (ns : List Raw) → CanGoBack Fits undone now (reverse ns) → IsGrowing (reverse (seen undone now (reverse ns))) → EachRests (reverse (seen undone now (reverse ns)))
    → reverse (seen undone now (reverse (joined_from is_held_whole None (place g ns) (dropped (lightened g ns))))) ≡ committed_joined g None (reverse (seen undone now (reverse ns)))
commit_joined g now ns can grows rests =
    order_is undone now (joined_from is_held_whole None (place g ns) (dropped (lightened g ns)))
    ∙ whole_seen g now ns (subst (Can now) (reverse-reverse ns) (in_turn is_held_whole state_undone NoteFits now (reverse ns) can)) (subst IsGrowing (order_is undone now ns) grows) (subst EachRests (order_is undone now ns) rests)
    ∙ ap (committed_joined g None) (sym (order_is undone now ns))

-- ---- a log of which no note depends on the guess
pub joined_free : (g : ℕ) (p : Option (Note EntityState)) (ns : List (Note EntityState)) → carries g ns ≡ false → committed_joined g p ns ≡ ns
joined_free g p [] none = refl
joined_free g p (n ∷ ns) none =
    let parts = or_parts _ _ none in
    ap (λ b. cond b (joined p (committed g (n ∷ ns))) (n ∷ committed_joined g (Some n) ns)) parts.0 ∙ ap (λ ms. n ∷ ms) (joined_free g (Some n) ns parts.1)

pub settled_rests : (g : ℕ) (ns : List (Note EntityState)) → list_all (is_settled g) ns ≡ true → EachRests ns
settled_rests g [] all = refl
settled_rests g (n ∷ ns) all = let both = and_both _ _ all in λ i. (and_both (not (has g n.tags)) (not (is_empty n.tags)) both.0).1 i && settled_rests g ns both.1 i

pub settled_none : (g : ℕ) (ns : List (Note EntityState)) → list_all (is_settled g) ns ≡ true → carries g ns ≡ false
settled_none g [] all = refl
settled_none g (n ∷ ns) all =
    let both = and_both _ _ all in
    ap (λ b. b || carries g ns) (not_true (has g n.tags) (and_both (not (has g n.tags)) (not (is_empty n.tags)) both.0).0) ∙ settled_none g ns both.1

-- ---- where all notes put back a whole value, what is left are runs
abbrev AllWhole : List (Note EntityState) → Type 0
AllWhole ns = list_all (λ n. is_whole n.before) ns ≡ true

whole_noted : (left : List ℕ) (v : Option EntityState) (rest : List (Note EntityState)) → is_whole v ≡ true → AllWhole rest → AllWhole (noted true left v rest)
whole_noted [] v rest whole all = all
whole_noted (t ∷ left) v rest whole all = λ i. whole i && all i

whole_commit : (g : ℕ) (ns : List (Note EntityState)) → AllWhole ns → AllWhole (committed g ns)
whole_commit g [] all = refl
whole_commit g (n ∷ ns) all = let both = and_both _ _ all in whole_noted (without g n.tags) n.before (committed g ns) both.0 (whole_commit g ns both.1)

joined_merged : (p : Note EntityState) (ns : List (Note EntityState)) → is_whole p.before ≡ true → AllWhole ns → joined (Some p) ns ≡ merged p.tags ns
joined_merged p [] whole all = refl
joined_merged p (n ∷ ns) whole all =
    let both = and_both _ _ all in
    let out = joined_merged p ns whole both.1 in
    let on = joined_merged n ns both.0 both.1 in
    ap (λ b. cond (b && same_tags n.tags p.tags) (joined (Some p) ns) (n ∷ joined (Some n) ns)) whole
    ∙ (λ i. cond (same_tags n.tags p.tags) (out i) (n ∷ on i))

some_differ : (tags : List ℕ) → not (is_empty tags) ≡ true → same_tags tags [] ≡ false
some_differ [] some = absurd (true≢false (sym some))
some_differ (t ∷ tags) some = refl

joined_first : (ns : List (Note EntityState)) → EachRests ns → AllWhole ns → joined None ns ≡ merged [] ns
joined_first [] rests all = refl
joined_first (n ∷ ns) rests all =
    let both = and_both _ _ all in
    ap (λ xs. n ∷ xs) (joined_merged n ns both.0 both.1)
    ∙ sym (ap (λ b. cond b (merged [] ns) (n ∷ merged n.tags ns)) (some_differ n.tags (and_both _ _ rests).0))

-- a note that does not depend on the guess stays, where it has not the tags of the one before it
stays_first : (g t : ℕ) (tags : List ℕ) (n : Note EntityState) (ns : List (Note EntityState)) → has g n.tags ≡ false → has t n.tags ≡ true → same_tags n.tags tags ≡ false
    → n ∷ merged n.tags (committed g ns) ≡ merged tags (committed g (n ∷ ns))
stays_first g t tags n ns free here apart =
    sym (ap (λ b. cond b (merged tags (committed g ns)) (n ∷ merged n.tags (committed g ns))) apart)
    ∙ ap (merged tags) (kept_one n.tags t here n.before (committed g ns) ∙ ap (λ ts. noted true ts n.before (committed g ns)) (sym (without_free g n.tags free)))

front_merged : (g t : ℕ) (p : Note EntityState) (ns : List (Note EntityState)) → is_whole p.before ≡ true → AllWhole ns → is_apart p.tags ns ≡ true → AllSeen t ns
    → committed_joined g (Some p) ns ≡ merged p.tags (committed g ns)
front_merged g t p [] whole all apart seen = refl
front_merged g t p (n ∷ ns) whole all apart seen =
    let both = and_both _ _ all in
    let other = and_both _ _ apart in
    let here = and_both _ _ seen in
    let rest = front_merged g t n ns both.0 both.1 other.1 here.1 in
    elim (has g n.tags) as (λ b. has g n.tags ≡ b → cond b (joined (Some p) (committed g (n ∷ ns))) (n ∷ committed_joined g (Some n) ns) ≡ merged p.tags (committed g (n ∷ ns))) [
      | true ↦ λ _. joined_merged p (committed g (n ∷ ns)) whole (whole_commit g (n ∷ ns) all)
      | false ↦ λ free. ap (λ xs. n ∷ xs) rest ∙ stays_first g t p.tags n ns free here.0 (not_true (same_tags n.tags p.tags) other.0)
    ] refl

pub runs_joined : (g : ℕ) (ns : List (Note EntityState)) → IsGrowing ns → EachRests ns → is_apart [] ns ≡ true → AllWhole ns → committed_joined g None ns ≡ merged [] (committed g ns)
runs_joined g [] grows rests apart all = refl
runs_joined g (n ∷ ns) grows rests apart all =
    let both = and_both _ _ all in
    let some = (and_both _ _ rests).0 in
    let one = some_tag n.tags some in
    elim (has g n.tags) as (λ b. has g n.tags ≡ b → cond b (joined None (committed g (n ∷ ns))) (n ∷ committed_joined g (Some n) ns) ≡ merged [] (committed g (n ∷ ns))) [
      | true ↦ λ _. joined_first (committed g (n ∷ ns)) (settled_rests g (committed g (n ∷ ns)) (all_settled g (n ∷ ns))) (whole_commit g (n ∷ ns) all)
      | false ↦ λ free.
          ap (λ xs. n ∷ xs) (front_merged g one.0 n ns both.0 both.1 (and_both _ _ apart).1 (grow_head n ns grows one.0 one.1))
          ∙ stays_first g one.0 [] n ns free one.1 (some_differ n.tags some)
    ] refl
