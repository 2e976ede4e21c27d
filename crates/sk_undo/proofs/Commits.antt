-- What a commit leaves of a log.
use Rattle.sk_undo.proofs.Cites.{◌≡◌, ℕ, Bool, true, false, cond, not, ◌&&◌, List, [], ◌∷◌, ◌++◌, Option, inl, inr}
use Rattle.sk_undo.proofs.Cites.{refl, sym, ◌∙◌, ap, subst, ◌==◌, reverse, list_all, true≢false, or_left, or_parts}
use Rattle.sk_undo.proofs.Cites.{eq-eqb, reverse_onto, reverse-reverse, Note, has, without, noted, carried, committed}
use Rattle.sk_undo.proofs.Cites.{Merges, IsGrowing, and_both, has_filter, RawNote, is_empty, seen, CanGoBack, lightened}
use Rattle.sk_undo.proofs.Cites.{dropped, carries}
use Rattle.sk_undo.proofs.SeenNotes.{AllSeen, grow_head, grow_tail}

-- ---- tags
has_without : (g : ℕ) (tags : List ℕ) → has g (without g tags) ≡ false
has_without g tags = has_filter (λ t. not (t == g)) g tags ∙ ap (λ b. not b && has g tags) (eq-eqb g g refl)

pub without_free : (g : ℕ) (tags : List ℕ) → has g tags ≡ false → without g tags ≡ tags
without_free g [] none = refl
without_free g (t ∷ tags) none =
    let parts = or_parts _ _ none in
    ap (λ b. cond (not b) (t ∷ without g tags) (without g tags)) parts.0 ∙ ap (λ ts. t ∷ ts) (without_free g tags parts.1)

has_left : (g h : ℕ) (tags left : List ℕ) → without g tags ≡ left → has h left ≡ (not (h == g) && has h tags)
has_left g h tags left is = ap (has h) (sym is) ∙ has_filter (λ t. not (t == g)) h tags

pub not_true : (b : Bool) → not b ≡ true → b ≡ false
not_true true h = absurd (true≢false (sym h))
not_true false h = refl

-- ---- logs as they are seen: where nothing depends on the guess, and a second commit of it
module _ {V : Type 0} where
  pub kept_one : (left : List ℕ) (t : ℕ) → has t left ≡ true → (v : Option V) (rest : List (Note V)) → record { tags = left; before = v } ∷ rest ≡ noted true left v rest
  kept_one [] t here v rest = absurd (true≢false (sym here))
  kept_one (x ∷ left) t here v rest = refl

  pub noted_some : (tags : List ℕ) (v : Option V) (rest : List (Note V)) → not (is_empty tags) ≡ true → noted true tags v rest ≡ record { tags = tags; before = v } ∷ rest
  noted_some [] v rest some = absurd (true≢false (sym some))
  noted_some (t ∷ tags) v rest some = refl

  -- where no note depends on it, nothing changes
  pub committed_free : (g : ℕ) (ns : List (Note V)) → carries g ns ≡ false → list_all (λ n. not (is_empty n.tags)) ns ≡ true → committed g ns ≡ ns
  committed_free g [] none rests = refl
  committed_free g (n ∷ ns) none rests =
      let parts = or_parts _ _ none in
      let both = and_both _ _ rests in
      ap (λ tags. noted true tags n.before (committed g ns)) (without_free g n.tags parts.0)
      ∙ noted_some n.tags n.before (committed g ns) both.0
      ∙ ap (λ rest. n ∷ rest) (committed_free g ns parts.1 both.1)

  again_by : (g : ℕ) (left : List ℕ) (v : Option V) (rest : List (Note V)) → without g left ≡ left → committed g rest ≡ rest
      → committed g (noted true left v rest) ≡ noted true left v rest
  again_by g [] v rest same still = still
  again_by g (t ∷ left) v rest same still = λ i. noted true (same i) v (still i)

  pub committed_twice : (g : ℕ) (ns : List (Note V)) → committed g (committed g ns) ≡ committed g ns
  committed_twice g [] = refl
  committed_twice g (n ∷ ns) = again_by g (without g n.tags) n.before (committed g ns) (without_free g (without g n.tags) (has_without g n.tags)) (committed_twice g ns)

  -- ---- what neither depends on the guess nor on nothing
  abbrev pub is_settled : ℕ → Note V → Bool
  is_settled g n = not (has g n.tags) && not (is_empty n.tags)

  pub settled_free : (g : ℕ) (ns : List (Note V)) → list_all (is_settled g) ns ≡ true → committed g ns ≡ ns
  settled_free g [] all = refl
  settled_free g (n ∷ ns) all =
      let both = and_both _ _ all in
      let one = and_both _ _ both.0 in
      ap (λ tags. noted true tags n.before (committed g ns)) (without_free g n.tags (not_true (has g n.tags) one.0))
      ∙ noted_some n.tags n.before (committed g ns) one.1
      ∙ ap (λ rest. n ∷ rest) (settled_free g ns both.1)

  settled_noted : (g : ℕ) (left : List ℕ) (v : Option V) (rest : List (Note V)) → has g left ≡ false → list_all (is_settled g) rest ≡ true → list_all (is_settled g) (noted true left v rest) ≡ true
  settled_noted g [] v rest free all = all
  settled_noted g (t ∷ left) v rest free all = λ i. (not (free i) && true) && all i

  pub all_settled : (g : ℕ) (ns : List (Note V)) → list_all (is_settled g) (committed g ns) ≡ true
  all_settled g [] = refl
  all_settled g (n ∷ ns) = settled_noted g (without g n.tags) n.before (committed g ns) (has_without g n.tags) (all_settled g ns)

  -- what holds of each note holds of each where some are left out
  pub all_merged : (p : Note V → Bool) (t : List ℕ) (ns ms : List (Note V)) → Merges t ns ms → list_all p ns ≡ true → list_all p ms ≡ true
  all_merged p t [] [] h all = refl
  all_merged p t [] (m ∷ ms) h all = absurd h
  all_merged p t (n ∷ ns) [] h all = refl
  all_merged p t (n ∷ ns) (m ∷ ms) (inl h) all = all_merged p t ns (m ∷ ms) h.1 (and_both _ _ all).1
  all_merged p t (n ∷ ns) (m ∷ ms) (inr h) all = let both = and_both _ _ all in λ i. (ap p h.0 ∙ both.0) i && all_merged p n.tags ns ms h.1 both.1 i

  -- a log that grows still grows
  some_left : (h : ℕ) (left : List ℕ) (v : Option V) (rest : List (Note V)) → has h left ≡ true → AllSeen h rest → AllSeen h (noted true left v rest)
  some_left h [] v rest here all = all
  some_left h (t ∷ left) v rest here all = ap (λ b. b && list_all (λ n. has h n.tags) rest) here ∙ all

  all_commit : (g h : ℕ) (ns : List (Note V)) → not (h == g) ≡ true → AllSeen h ns → AllSeen h (committed g ns)
  all_commit g h [] other all = refl
  all_commit g h (n ∷ ns) other all =
      let both = and_both _ _ all in
      some_left h (without g n.tags) n.before (committed g ns) (has_left g h n.tags (without g n.tags) refl ∙ (λ i. other i && both.0 i)) (all_commit g h ns other both.1)

  carried_by : (g h : ℕ) (n : Note V) (ns : List (Note V)) → IsGrowing (n ∷ ns) → AllSeen h (carried h (committed g ns)) → (left : List ℕ) → without g n.tags ≡ left
      → AllSeen h (carried h (noted true left n.before (committed g ns)))
  carried_by g h n ns grows rest [] is = rest
  carried_by g h n ns grows rest (t ∷ left) is =
      let m : Note V = record { tags = t ∷ left; before = n.before } in
      elim (has h (t ∷ left)) as (λ b. has h (t ∷ left) ≡ b → AllSeen h (cond b (m ∷ committed g ns) (carried h (committed g ns)))) [
        | true ↦ λ here.
            let both = and_both (not (h == g)) (has h n.tags) (sym (has_left g h n.tags (t ∷ left) is) ∙ here) in
            ap (λ b. b && list_all (λ n. has h n.tags) (committed g ns)) here ∙ all_commit g h ns both.0 (grow_head n ns grows h both.1)
        | false ↦ λ _. rest
      ] refl

  carried_commit : (g h : ℕ) (ns : List (Note V)) → IsGrowing ns → AllSeen h (carried h (committed g ns))
  carried_commit g h [] grows = refl
  carried_commit g h (n ∷ ns) grows = carried_by g h n ns grows (carried_commit g h ns (grow_tail n ns grows)) (without g n.tags) refl

  pub grow_commit : (g : ℕ) (ns : List (Note V)) → IsGrowing ns → IsGrowing (committed g ns)
  grow_commit g ns grows h = carried_commit g h ns grows

-- ---- notes that are there
module _ {U : Type 0} where
  pub light_append : (g : ℕ) (xs ys : List (RawNote U)) → lightened g (xs ++ ys) ≡ lightened g xs ++ lightened g ys
  light_append g [] ys = refl
  light_append g (x ∷ xs) ys = ap (λ zs. record { tags = without g x.tags; undo = x.undo } ∷ zs) (light_append g xs ys)

  pub light_reverse : (g : ℕ) (xs : List (RawNote U)) → reverse (lightened g xs) ≡ lightened g (reverse xs)
  light_reverse g [] = refl
  light_reverse g (n ∷ ns) =
      let m : RawNote U = record { tags = without g n.tags; undo = n.undo } in
      reverse_onto (lightened g ns) m [] ∙ ap (λ ys. ys ++ m ∷ []) (light_reverse g ns) ∙ sym (light_append g (reverse ns) (n ∷ [])) ∙ ap (lightened g) (sym (reverse_onto ns n []))

-- ---- what is left can still be undone
module _ {U V : Type 0} (fits : U → Option V → Type 0) (undone : U → Option V → Option V) where
  undone_all : (v : Option V) (ns : List (RawNote U)) (zs : List (RawNote U)) → CanGoBack fits undone v (ns ++ zs) → CanGoBack fits undone v ns
  undone_all v [] zs can = tt
  undone_all v (n ∷ ns) zs can = (can.0, undone_all (undone n.undo v) ns zs can.1)

  pub dropped_can : (v : Option V) (xs : List (RawNote U)) → CanGoBack fits undone v (reverse xs) → CanGoBack fits undone v (reverse (dropped xs))
  dropped_can v [] can = can
  dropped_can v (n ∷ ns) can =
      elim (is_empty n.tags) as (λ b. CanGoBack fits undone v (reverse (cond b (dropped ns) (n ∷ ns)))) [
        | true ↦ dropped_can v ns (undone_all v (reverse ns) (n ∷ []) (subst (CanGoBack fits undone v) (reverse_onto ns n []) can))
        | false ↦ can
      ]

-- ---- and is seen as a commit leaves it
module _ {U V : Type 0} (undone : U → Option V → Option V) where
  abbrev pub value_before : Option V → List (RawNote U) → Option V
  value_before now [] = now
  value_before now (n ∷ ns) = undone n.undo (value_before now ns)

  abbrev pub in_order : Option V → List (RawNote U) → List (Note V)
  in_order now [] = []
  in_order now (n ∷ ns) = record { tags = n.tags; before = undone n.undo (value_before now ns) } ∷ in_order now ns

  pub before_more : (ns : List (RawNote U)) (n : RawNote U) (now : Option V) → value_before now (ns ++ n ∷ []) ≡ value_before (undone n.undo now) ns
  before_more [] n now = refl
  before_more (x ∷ ns) n now = ap (undone x.undo) (before_more ns n now)

  order_more : (ns : List (RawNote U)) (n : RawNote U) (now : Option V) → in_order now (ns ++ n ∷ []) ≡ in_order (undone n.undo now) ns ++ record { tags = n.tags; before = undone n.undo now } ∷ []
  order_more [] n now = refl
  order_more (x ∷ ns) n now = λ i. record { tags = x.tags; before = undone x.undo (before_more ns n now i) } ∷ order_more ns n now i

  order_reverse : (now : Option V) (ns : List (RawNote U)) → reverse (seen undone now ns) ≡ in_order now (reverse ns)
  order_reverse now [] = refl
  order_reverse now (n ∷ ns) =
      let m : Note V = record { tags = n.tags; before = undone n.undo now } in
      reverse_onto (seen undone (undone n.undo now) ns) m [] ∙ ap (λ ys. ys ++ m ∷ []) (order_reverse (undone n.undo now) ns)
      ∙ sym (order_more (reverse ns) n now) ∙ ap (in_order now) (sym (reverse_onto ns n []))

  pub order_is : (now : Option V) (xs : List (RawNote U)) → reverse (seen undone now (reverse xs)) ≡ in_order now xs
  order_is now xs = order_reverse now (reverse xs) ∙ ap (in_order now) (reverse-reverse xs)

  pub light_before : (g : ℕ) (now : Option V) (ns : List (RawNote U)) → value_before now (lightened g ns) ≡ value_before now ns
  light_before g now [] = refl
  light_before g now (n ∷ ns) = ap (undone n.undo) (light_before g now ns)

  -- where each note depends on something else too, none is dropped
  pub none_gone : (g t : ℕ) (ns : List (RawNote U)) (now : Option V) → not (t == g) ≡ true → AllSeen t (in_order now ns) → in_order now (lightened g ns) ≡ committed g (in_order now ns)
  none_gone g t [] now other all = refl
  none_gone g t (n ∷ ns) now other all =
      let both = and_both _ _ all in
      let there : has t (without g n.tags) ≡ true = has_filter (λ t. not (t == g)) t n.tags ∙ (λ i. other i && both.0 i) in
      (λ i. record { tags = without g n.tags; before = undone n.undo (light_before g now ns i) } ∷ none_gone g t ns now other both.1 i)
      ∙ kept_one (without g n.tags) t there (undone n.undo (value_before now ns)) (committed g (in_order now ns))

  module _ (g : ℕ) (n : RawNote U) (ns : List (RawNote U)) (now : Option V) where
    abbrev first : Note V
    first = record { tags = n.tags; before = undone n.undo (value_before now ns) }

    one : IsGrowing (first ∷ in_order now ns) → in_order now (dropped (lightened g ns)) ≡ committed g (in_order now ns) → (left : List ℕ) → without g n.tags ≡ left
        → in_order now (cond (is_empty left) (dropped (lightened g ns)) (record { tags = left; undo = n.undo } ∷ lightened g ns)) ≡ noted true left (undone n.undo (value_before now ns)) (committed g (in_order now ns))
    one grows rest [] is = rest
    one grows rest (t ∷ left) is =
        let there : has t (without g n.tags) ≡ true = ap (has t) is ∙ or_left _ _ (eq-eqb t t refl) in
        let both = and_both (not (t == g)) (has t n.tags) (sym (has_filter (λ t. not (t == g)) t n.tags) ∙ there) in
        let same = none_gone g t ns now both.0 (grow_head first (in_order now ns) grows t both.1) in
        λ i. record { tags = t ∷ left; before = undone n.undo (light_before g now ns i) } ∷ same i

  pub commit_order : (g : ℕ) (ns : List (RawNote U)) (now : Option V) → IsGrowing (in_order now ns) → in_order now (dropped (lightened g ns)) ≡ committed g (in_order now ns)
  commit_order g [] now grows = refl
  commit_order g (n ∷ ns) now grows = one g n ns now grows (commit_order g ns now (grow_tail (first g n ns now) (in_order now ns) grows)) (without g n.tags) refl

  pub commit_seen : (g : ℕ) (ns : List (RawNote U)) (now : Option V) → IsGrowing (reverse (seen undone now (reverse ns))) → reverse (seen undone now (reverse (dropped (lightened g ns)))) ≡ committed g (reverse (seen undone now (reverse ns)))
  commit_seen g ns now grows =
      order_is now (dropped (lightened g ns)) ∙ commit_order g ns now (subst IsGrowing (order_is now ns) grows) ∙ ap (committed g) (sym (order_is now ns))
