-- Notes that are there, notes that are seen, and logs that grow.
use Rattle.sk_undo.proofs.Cites.{◌≡◌, ℕ, Bool, true, false, cond, drop, ◌&&◌, ◌||◌, List, [], ◌∷◌, ◌++◌, Option, refl, ◌∙◌}
use Rattle.sk_undo.proofs.Cites.{sym, ap, subst, reverse, list_all, true≢false, or_parts, reverse_onto, Note, has}
use Rattle.sk_undo.proofs.Cites.{last_tags, cut, carried, unwound, IsGrowing, and_both, RawNote, is_empty, seen}
use Rattle.sk_undo.proofs.Cites.{CanGoBack, before_last, newest_tags, carries, nat_cmp}
use Rattle.std.specs.List.Sorted.{IsStrictlySortedBy}

-- ---- no notes
more_is_some : {A : Type 0} (xs : List A) (x : A) → is_empty (xs ++ x ∷ []) ≡ false
more_is_some [] x = refl
more_is_some (y ∷ xs) x = refl

pub none_reverse : {A : Type 0} (xs : List A) → is_empty (reverse xs) ≡ is_empty xs
none_reverse [] = refl
none_reverse (x ∷ xs) = ap is_empty (reverse_onto xs x []) ∙ more_is_some (reverse xs) x

pub none_is : {A : Type 0} (xs : List A) → is_empty xs ≡ true → xs ≡ []
none_is [] h = refl
none_is (x ∷ xs) h = absurd (true≢false (sym h))

module _ {U V : Type 0} (undone : U → Option V → Option V) where
  empty_seen : (now : Option V) (ns : List (RawNote U)) → is_empty (seen undone now ns) ≡ is_empty ns
  empty_seen now [] = refl
  empty_seen now (n ∷ ns) = refl

  -- no notes are seen where there are none
  pub notes_none : (now : Option V) (ns : List (RawNote U)) → is_empty (seen undone now (reverse ns)) ≡ is_empty ns
  notes_none now ns = empty_seen now (reverse ns) ∙ none_reverse ns

  pub none_there : (now : Option V) (ns : List (RawNote U)) → seen undone now (reverse ns) ≡ [] → ns ≡ []
  none_there now ns h = none_is ns (sym (notes_none now ns) ∙ ap is_empty h)

-- ---- what holds of all notes
pub all_less : {A : Type 0} (p : A → Bool) (xs : List A) → list_all p xs ≡ true → list_all p (drop 1 xs) ≡ true
all_less p [] all = refl
all_less p (x ∷ xs) all = (and_both _ _ all).1

pub all_more : {A : Type 0} (p : A → Bool) (xs ys : List A) → list_all p xs ≡ true → list_all p ys ≡ true → list_all p (xs ++ ys) ≡ true
all_more p [] ys all more = more
all_more p (x ∷ xs) ys all more = let both = and_both _ _ all in λ i. both.0 i && all_more p xs ys both.1 more i

pub all_reverse : {A : Type 0} (p : A → Bool) (xs : List A) → list_all p xs ≡ true → list_all p (reverse xs) ≡ true
all_reverse p [] all = refl
all_reverse p (x ∷ xs) all =
    let both = and_both _ _ all in
    ap (list_all p) (reverse_onto xs x []) ∙ all_more p (reverse xs) (x ∷ []) (all_reverse p xs both.1) (λ i. both.0 i && true)

pub all_front : {A : Type 0} (p : A → Bool) (xs ys : List A) → list_all p (xs ++ ys) ≡ true → list_all p xs ≡ true
all_front p [] ys all = refl
all_front p (x ∷ xs) ys all = let both = and_both _ _ all in λ i. both.0 i && all_front p xs ys both.1 i

-- ---- logs, the oldest note first
module _ {V : Type 0} where
  abbrev pub AllSeen : ℕ → List (Note V) → Type 0
  AllSeen g ns = list_all (λ n. has g n.tags) ns ≡ true

  -- a log that carries g loses its last note, and unwinds to the same
  pub one_off : (g : ℕ) (xs : List (Note V)) (n : Note V) (now : Option V) → has g n.tags ≡ true
      → (unwound g xs n.before ≡ unwound g (xs ++ n ∷ []) now) × (cut g xs ≡ cut g (xs ++ n ∷ []))
  one_off g [] n now here = (ap (λ b. cond b n.before now) (sym here), ap (λ b. cond b [] (n ∷ [])) (sym here))
  one_off g (x ∷ xs) n now here =
      let rest = one_off g xs n now here in
      elim (has g x.tags) as (λ b.
      (cond b x.before (unwound g xs n.before) ≡ cond b x.before (unwound g (xs ++ n ∷ []) now))
      × (cond b [] (x ∷ cut g xs) ≡ cond b [] (x ∷ cut g (xs ++ n ∷ [])))) [
        | true ↦ (refl, refl)
        | false ↦ (rest.0, ap (λ ys. x ∷ ys) rest.1)
      ]

  -- and one that does not is as it is
  pub none_off : (g : ℕ) (xs : List (Note V)) (now : Option V) → carries g xs ≡ false → (unwound g xs now ≡ now) × (cut g xs ≡ xs)
  none_off g [] now none = (refl, refl)
  none_off g (x ∷ xs) now none =
      let parts = or_parts _ _ none in
      let rest = none_off g xs now parts.1 in (
        ap (λ t. cond t x.before (unwound g xs now)) parts.0 ∙ rest.0,
        ap (λ t. cond t [] (x ∷ cut g xs)) parts.0 ∙ ap (λ r. x ∷ r) rest.1,
      )

  carry_tail : (g : ℕ) (ns : List (Note V)) → AllSeen g ns → AllSeen g (carried g ns)
  carry_tail g [] all = refl
  carry_tail g (n ∷ ns) all =
      let here = (and_both _ _ all).0 in
      subst (λ b. AllSeen g (cond b (n ∷ ns) (carried g ns))) (sym here) all

  pub grow_tail : (n : Note V) (ns : List (Note V)) → IsGrowing (n ∷ ns) → IsGrowing ns
  grow_tail n ns grows g =
      elim (has g n.tags) as (λ b. AllSeen g (cond b (n ∷ ns) (carried g ns)) → AllSeen g (carried g ns)) [
        | true ↦ λ all. carry_tail g ns (and_both _ _ all).1
        | false ↦ λ all. all
      ] (grows g)

  pub grow_head : (n : Note V) (ns : List (Note V)) → IsGrowing (n ∷ ns) → (g : ℕ) → has g n.tags ≡ true → AllSeen g ns
  grow_head n ns grows g here = (and_both _ _ (subst (λ b. AllSeen g (cond b (n ∷ ns) (carried g ns))) here (grows g))).1

  front_at : (g : ℕ) (xs ys : List (Note V)) → AllSeen g (carried g (xs ++ ys)) → AllSeen g (carried g xs)
  front_at g [] ys all = refl
  front_at g (x ∷ xs) ys all =
      elim (has g x.tags) as (λ b. AllSeen g (cond b (x ∷ xs ++ ys) (carried g (xs ++ ys))) → AllSeen g (cond b (x ∷ xs) (carried g xs))) [
        | true ↦ λ all. all_front (λ (n : Note V). has g n.tags) (x ∷ xs) ys all
        | false ↦ λ all. front_at g xs ys all
      ] all

  -- without its last note
  pub grow_front : (xs ys : List (Note V)) → IsGrowing (xs ++ ys) → IsGrowing xs
  grow_front xs ys grows g = front_at g xs ys (grows g)

  all_last : (g : ℕ) (xs : List (Note V)) (n : Note V) → AllSeen g (xs ++ n ∷ []) → has g n.tags ≡ true
  all_last g [] n all = (and_both _ _ all).0
  all_last g (x ∷ xs) n all = all_last g xs n (and_both _ _ all).1

  -- where the last note does not depend on a guess, none does
  pub last_none : (g : ℕ) (xs : List (Note V)) (n : Note V) → IsGrowing (xs ++ n ∷ []) → has g n.tags ≡ false → carries g (xs ++ n ∷ []) ≡ false
  last_none g [] n grows none = ap (λ b. b || false) none
  last_none g (x ∷ xs) n grows none =
      elim (has g x.tags) as (λ b. has g x.tags ≡ b → (b || carries g (xs ++ n ∷ [])) ≡ false) [
        | true ↦ λ here. absurd (true≢false (sym (all_last g xs n (grow_head x (xs ++ n ∷ []) grows g here)) ∙ none))
        | false ↦ λ _. last_none g xs n (grow_tail x (xs ++ n ∷ []) grows) none
      ] refl

  all_cut : (g h : ℕ) (ns : List (Note V)) → AllSeen h ns → AllSeen h (cut g ns)
  all_cut g h [] all = refl
  all_cut g h (n ∷ ns) all =
      let both = and_both _ _ all in
      elim (has g n.tags) as (λ b. AllSeen h (cond b [] (n ∷ cut g ns))) [
        | true ↦ refl
        | false ↦ ap (λ b. b && list_all (λ n. has h n.tags) (cut g ns)) both.0 ∙ all_cut g h ns both.1
      ]

  cut_at : (g h : ℕ) (ns : List (Note V)) → IsGrowing ns → AllSeen h (carried h (cut g ns))
  cut_at g h [] grows = refl
  cut_at g h (n ∷ ns) grows =
      elim (has g n.tags) as (λ b. AllSeen h (carried h (cond b [] (n ∷ cut g ns)))) [
        | true ↦ refl
        | false ↦ elim (has h n.tags) as (λ b. has h n.tags ≡ b → AllSeen h (cond b (n ∷ cut g ns) (carried h (cut g ns)))) [
          | true ↦ λ here. ap (λ b. b && list_all (λ n. has h n.tags) (cut g ns)) here ∙ all_cut g h ns (grow_head n ns grows h here)
          | false ↦ λ _. cut_at g h ns (grow_tail n ns grows)
        ] refl
      ]

  -- what a failure leaves grows too
  pub grow_cut : (g : ℕ) (ns : List (Note V)) → IsGrowing ns → IsGrowing (cut g ns)
  grow_cut g ns grows h = cut_at g h ns grows

-- ---- one note undone
module _ {U V : Type 0} (undone : U → Option V → Option V) where
  abbrev log : Option V → List (RawNote U) → List (Note V)
  log now rs = reverse (seen undone now rs)

  seen_less : (now : Option V) (rs : List (RawNote U)) → seen undone (before_last now (seen undone now rs)) (drop 1 rs) ≡ drop 1 (seen undone now rs)
  seen_less now [] = refl
  seen_less now (r ∷ rs) = refl

  less_off : (g : ℕ) (now : Option V) (rs : List (RawNote U)) → has g (newest_tags rs) ≡ true
      → (unwound g (reverse (drop 1 (seen undone now rs))) (before_last now (seen undone now rs)) ≡ unwound g (log now rs) now) × (cut g (reverse (drop 1 (seen undone now rs))) ≡ cut g (log now rs))
  less_off g now [] here = absurd (true≢false (sym here))
  less_off g now (r ∷ rs) here =
      let n : Note V = record { tags = r.tags; before = undone r.undo now } in
      let ns = seen undone (undone r.undo now) rs in
      let whole = reverse_onto ns n [] in
      let off = one_off g (reverse ns) n now here in
      (off.0 ∙ ap (λ log. unwound g log now) (sym whole), off.1 ∙ ap (cut g) (sym whole))

  less_grows : (now : Option V) (rs : List (RawNote U)) → IsGrowing (log now rs) → IsGrowing (reverse (drop 1 (seen undone now rs)))
  less_grows now [] grows = grows
  less_grows now (r ∷ rs) grows =
      let ns = seen undone (undone r.undo now) rs in
      let n : Note V = record { tags = r.tags; before = undone r.undo now } in
      grow_front (reverse ns) (n ∷ []) (subst IsGrowing (reverse_onto ns n []) grows)

  -- and where the newest does not depend on the guess
  pub at_end : (g : ℕ) (now : Option V) (rs : List (RawNote U)) → has g (newest_tags rs) ≡ false → IsGrowing (log now rs) → (unwound g (log now rs) now ≡ now) × (cut g (log now rs) ≡ log now rs)
  at_end g now [] none grows = (refl, refl)
  at_end g now (r ∷ rs) none grows =
      let ns = seen undone (undone r.undo now) rs in
      let n : Note V = record { tags = r.tags; before = undone r.undo now } in
      let whole = reverse_onto ns n [] in
      none_off g (log now (r ∷ rs)) now (ap (carries g) whole ∙ last_none g (reverse ns) n (subst IsGrowing whole grows) none)

-- ---- the newest notes undone, one after another
module _ {U V : Type 0} (fits : U → Option V → Type 0) (undone : U → Option V → Option V) where
  -- what is left of a log unwinds to the same
  pub record Left (g : ℕ) (old now : Option V) (olds rs : List (RawNote U)) : Type 0 where
    pub can : CanGoBack fits undone now rs
    pub value : unwound g (reverse (seen undone now rs)) now ≡ unwound g (reverse (seen undone old olds)) old
    pub cuts : cut g (reverse (seen undone now rs)) ≡ cut g (reverse (seen undone old olds))
    pub grows : IsGrowing (reverse (seen undone old olds)) → IsGrowing (reverse (seen undone now rs))
    pub left : (p : RawNote U → Bool) → list_all p olds ≡ true → list_all p rs ≡ true

  pub all_left : (g : ℕ) (now : Option V) (rs : List (RawNote U)) → CanGoBack fits undone now rs → Left g now now rs rs
  all_left g now rs can = record { can = can; value = refl; cuts = refl; grows = λ h. h; left = λ p h. h }

  pub one_less : (g : ℕ) (old now now' : Option V) (olds rs rs' : List (RawNote U)) → Left g old now olds rs → has g (newest_tags rs) ≡ true
      → now' ≡ before_last now (seen undone now rs) → rs' ≡ drop 1 rs → CanGoBack fits undone now' rs' → Left g old now' olds rs'
  one_less g old now now' olds rs rs' so here value notes can =
      let off = less_off undone g now rs here in
      let view : seen undone now' rs' ≡ drop 1 (seen undone now rs) = (λ i. seen undone (value i) (notes i)) ∙ seen_less undone now rs in
      record {
        can = can;
        value = (λ i. unwound g (reverse (view i)) (value i)) ∙ off.0 ∙ so.value;
        cuts = ap (λ ns. cut g (reverse ns)) view ∙ off.1 ∙ so.cuts;
        grows = λ grows. subst (λ ns. IsGrowing (reverse ns)) (sym view) (less_grows undone now rs (so.grows grows));
        left = λ p all. ap (list_all p) notes ∙ all_less p rs (so.left p all);
      }

  -- where the newest of what is left does not depend on the guess
  pub all_off : (g : ℕ) (old now : Option V) (olds rs : List (RawNote U)) → Left g old now olds rs → has g (newest_tags rs) ≡ false → IsGrowing (reverse (seen undone old olds))
      → (now ≡ unwound g (reverse (seen undone old olds)) old) × (reverse (seen undone now rs) ≡ cut g (reverse (seen undone old olds)))
  all_off g old now olds rs so none grows =
      let off = at_end undone g now rs none (so.grows grows) in
      (sym off.0 ∙ so.value, sym off.1 ∙ so.cuts)

module _ {V : Type 0} where
  pub last_onto : (tags : List ℕ) (ns : List (Note V)) (n : Note V) → last_tags tags (ns ++ n ∷ []) ≡ n.tags
  last_onto tags [] n = refl
  last_onto tags (x ∷ ns) n = last_onto x.tags ns n

  pub newest_of : (n : Note V) (ns : List (Note V)) → last_tags [] (reverse (n ∷ ns)) ≡ n.tags
  newest_of n ns = ap (last_tags []) (reverse_onto ns n []) ∙ last_onto [] (reverse ns) n

-- no tags rise
pub none_rises : IsStrictlySortedBy nat_cmp []
unfolding IsStrictlySortedBy
none_rises = tt

-- the tags of the newest note are those of the last that is seen
module _ {U V : Type 0} (undone : U → Option V → Option V) where
  pub tags_seen : (now : Option V) (rs : List (RawNote U)) → newest_tags rs ≡ last_tags [] (reverse (seen undone now rs))
  tags_seen now [] = refl
  tags_seen now (r ∷ rs) = sym (newest_of (record { tags = r.tags; before = undone r.undo now }) (seen undone (undone r.undo now) rs))
