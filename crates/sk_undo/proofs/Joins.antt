-- Notes left out, for which the note before them stands: what is left is seen as before, but for these.
use Rattle.sk_undo.proofs.Cites.{◌≡◌, ℕ, zero, suc, ◌<◌, ◌≤◌, length, take, drop, Bool, true, false, cond, ◌&&◌, List}
use Rattle.sk_undo.proofs.Cites.{[], ◌∷◌, ◌++◌, Option, Some, None, inr, refl, sym, ap, subst, arith, reverse}
use Rattle.sk_undo.proofs.Cites.{slice_index_or, list_all, true≢false, reverse_onto, reverse-reverse, exact_bytes, Undo}
use Rattle.sk_undo.proofs.Cites.{PutBack, Was, Changed, Note, Merges, past, and_both, RawNote, seen, CanGoBack}
use Rattle.sk_undo.proofs.Cites.{undone_by, FitsBy, restores, stands_for, is_covered, repeats, joined_from}
use Rattle.sk_undo.proofs.Commits.{value_before, in_order, before_more, order_is}

-- ---- one place after another
module _ {V : Type 0} (whole : V → Bool) where
  pub leave_out : (p : Option (RawNote (PutBack V))) (i : ℕ) (ns : List (RawNote (PutBack V))) → i < length ns → repeats whole p i ns ≡ true
      → joined_from whole p i (take i ns ++ drop (suc i) ns) ≡ joined_from whole p i ns
  leave_out p i [] lt is = absurd (omega arith)
  leave_out p zero (n ∷ ns) lt is = ap (λ b. cond b (joined_from whole p zero ns) (n ∷ joined_from whole (Some n) zero ns)) (sym is)
  leave_out p (suc i) (n ∷ ns) lt is = ap (λ xs. n ∷ xs) (leave_out (Some n) i ns (omega arith) is)

  pub go_on : (p : Option (RawNote (PutBack V))) (i : ℕ) (ns : List (RawNote (PutBack V))) → i < length ns → repeats whole p i ns ≡ false → joined_from whole p (suc i) ns ≡ joined_from whole p i ns
  go_on p i [] lt is = absurd (omega arith)
  go_on p zero (n ∷ ns) lt is = ap (λ b. cond b (joined_from whole p zero ns) (n ∷ joined_from whole (Some n) zero ns)) (sym is)
  go_on p (suc i) (n ∷ ns) lt is = ap (λ xs. n ∷ xs) (go_on (Some n) i ns (omega arith) is)

  pub at_end : (p : Option (RawNote (PutBack V))) (i : ℕ) (ns : List (RawNote (PutBack V))) → length ns ≤ i → joined_from whole p i ns ≡ ns
  at_end p i [] le = refl
  at_end p zero (n ∷ ns) le = absurd (omega arith)
  at_end p (suc i) (n ∷ ns) le = ap (λ xs. n ∷ xs) (at_end (Some n) i ns (omega arith))

  repeats_at : (p : Option (RawNote (PutBack V))) (i : ℕ) (ns : List (RawNote (PutBack V))) (n m : RawNote (PutBack V)) → suc i < length ns → n ≡ slice_index_or ns (suc i) n → m ≡ slice_index_or ns i m
      → stands_for whole m n.tags ≡ repeats whole p (suc i) ns
  repeats_at p i [] n m lt is was = absurd (omega arith)
  repeats_at p zero (x ∷ []) n m lt is was = absurd (omega arith)
  repeats_at p zero (x ∷ y ∷ ns) n m lt is was = λ i. stands_for whole (was i) (ap (λ (z : RawNote (PutBack V)). z.tags) is i)
  repeats_at p (suc i) (x ∷ ns) n m lt is was = repeats_at (Some x) i ns n m (omega arith) is was

  pub repeats_place : (i j : ℕ) (ns : List (RawNote (PutBack V))) (n m : RawNote (PutBack V)) → i ≡ suc j → i < length ns → n ≡ slice_index_or ns i n → m ≡ slice_index_or ns j m
      → stands_for whole m n.tags ≡ repeats whole None i ns
  repeats_place i j ns n m next lt is was =
      subst (λ k. k < length ns → n ≡ slice_index_or ns k n → stands_for whole m n.tags ≡ repeats whole None k ns) (sym next) (λ lt is. repeats_at None j ns n m lt is was) lt is

  pub none_repeats : (ns : List (RawNote (PutBack V))) → false ≡ repeats whole None 0 ns
  none_repeats [] = refl
  none_repeats (n ∷ ns) = refl

  -- what holds of each note holds of each that is left
  pub all_joined : (q : RawNote (PutBack V) → Bool) (p : Option (RawNote (PutBack V))) (i : ℕ) (ns : List (RawNote (PutBack V))) → list_all q ns ≡ true → list_all q (joined_from whole p i ns) ≡ true
  all_joined q p i [] all = refl
  all_joined q p zero (n ∷ ns) all =
      let both = and_both _ _ all in
      elim (is_covered whole p n.tags) as (λ b. list_all q (cond b (joined_from whole p zero ns) (n ∷ joined_from whole (Some n) zero ns)) ≡ true) [
        | true ↦ all_joined q p zero ns both.1
        | false ↦ λ i. both.0 i && all_joined q (Some n) zero ns both.1 i
      ]
  all_joined q p (suc i) (n ∷ ns) all = let both = and_both _ _ all in λ j. both.0 j && all_joined q (Some n) i ns both.1 j

-- ---- as they are seen
module _ {V : Type 0} (whole : V → Bool) (undone : V → Undo → V) (fits : V → Undo → Type 0) where
  pub same_undone : (undo : PutBack V) (a b : Option V) → restores whole undo ≡ true → undone_by undone undo a ≡ undone_by undone undo b
  same_undone (Was v) a b h = refl
  same_undone (Changed undo) a b h = absurd (true≢false (sym h))

  pub fits_any : (undo : PutBack V) (b : Option V) → restores whole undo ≡ true → FitsBy fits undo b
  fits_any (Was v) b h = tt
  fits_any (Changed undo) b h = absurd (true≢false (sym h))

  module _ (now : Option V) where
    -- what is undone to is the same
    pub same_before : (n : RawNote (PutBack V)) (i : ℕ) (ns : List (RawNote (PutBack V)))
        → undone_by undone n.undo (value_before (undone_by undone) now (joined_from whole (Some n) i ns)) ≡ undone_by undone n.undo (value_before (undone_by undone) now ns)
    same_before n i [] = refl
    same_before n zero (x ∷ ns) =
        elim (stands_for whole n x.tags) as (λ b. stands_for whole n x.tags ≡ b
        → undone_by undone n.undo (value_before (undone_by undone) now (cond b (joined_from whole (Some n) zero ns) (x ∷ joined_from whole (Some x) zero ns))) ≡ undone_by undone n.undo (value_before (undone_by undone) now (x ∷ ns))) [
          | true ↦ λ is. same_undone n.undo _ _ (and_both _ _ is).0
          | false ↦ λ _. ap (undone_by undone n.undo) (same_before x zero ns)
        ] refl
    same_before n (suc i) (x ∷ ns) = ap (undone_by undone n.undo) (same_before x i ns)

    fits_before : (n : RawNote (PutBack V)) (i : ℕ) (ns : List (RawNote (PutBack V))) → FitsBy fits n.undo (value_before (undone_by undone) now ns)
        → FitsBy fits n.undo (value_before (undone_by undone) now (joined_from whole (Some n) i ns))
    fits_before n i [] h = h
    fits_before n zero (x ∷ ns) h =
        elim (stands_for whole n x.tags) as (λ b. stands_for whole n x.tags ≡ b
        → FitsBy fits n.undo (value_before (undone_by undone) now (cond b (joined_from whole (Some n) zero ns) (x ∷ joined_from whole (Some x) zero ns)))) [
          | true ↦ λ is. fits_any n.undo _ (and_both _ _ is).0
          | false ↦ λ _. subst (FitsBy fits n.undo) (sym (same_before x zero ns)) h
        ] refl
    fits_before n (suc i) (x ∷ ns) h = subst (FitsBy fits n.undo) (sym (same_before x i ns)) h

    abbrev tags_of : Option (RawNote (PutBack V)) → List ℕ
    tags_of None = []
    tags_of (Some n) = n.tags

    covered_tags : (p : Option (RawNote (PutBack V))) (tags : List ℕ) → is_covered whole p tags ≡ true → tags ≡ tags_of p
    covered_tags None tags h = absurd (true≢false (sym h))
    covered_tags (Some n) tags h = (exact_bytes tags n.tags).0 (and_both _ _ h).1

    pub note_same : (n : RawNote (PutBack V)) (i : ℕ) (ns : List (RawNote (PutBack V)))
        → ◌≡◌ {A = Note V} (record { tags = n.tags; before = undone_by undone n.undo (value_before (undone_by undone) now (joined_from whole (Some n) i ns)) }) (record { tags = n.tags; before = undone_by undone n.undo (value_before (undone_by undone) now ns) })
    note_same n i ns = λ j. record { tags = n.tags; before = same_before n i ns j }

    joins_order : (p : Option (RawNote (PutBack V))) (i : ℕ) (ns : List (RawNote (PutBack V))) → Merges (tags_of p) (in_order (undone_by undone) now ns) (in_order (undone_by undone) now (joined_from whole p i ns))
    joins_order p i [] = tt
    joins_order p zero (n ∷ ns) =
        elim (is_covered whole p n.tags) as (λ b. is_covered whole p n.tags ≡ b
        → Merges (tags_of p) (in_order (undone_by undone) now (n ∷ ns)) (in_order (undone_by undone) now (cond b (joined_from whole p zero ns) (n ∷ joined_from whole (Some n) zero ns)))) [
          | true ↦ λ is. past (tags_of p) _ (in_order (undone_by undone) now ns) _ (covered_tags p n.tags is) (joins_order p zero ns)
          | false ↦ λ _. inr (note_same n zero ns, joins_order (Some n) zero ns)
        ] refl
    joins_order p (suc i) (n ∷ ns) = inr (note_same n i ns, joins_order (Some n) i ns)

    pub joins : (i : ℕ) (ns : List (RawNote (PutBack V))) → Merges [] (reverse (seen (undone_by undone) now (reverse ns))) (reverse (seen (undone_by undone) now (reverse (joined_from whole None i ns))))
    joins i ns =
        subst (λ xs. Merges [] xs (reverse (seen (undone_by undone) now (reverse (joined_from whole None i ns))))) (sym (order_is (undone_by undone) now ns))
        (subst (Merges [] (in_order (undone_by undone) now ns)) (sym (order_is (undone_by undone) now (joined_from whole None i ns))) (joins_order None i ns))

  -- ---- and can be undone
  abbrev pub CanInOrder : Option V → List (RawNote (PutBack V)) → Type 0
  CanInOrder now [] = Unit {0}
  CanInOrder now (n ∷ ns) = FitsBy fits n.undo (value_before (undone_by undone) now ns) × CanInOrder now ns

  can_more : (now : Option V) (ns : List (RawNote (PutBack V))) (n : RawNote (PutBack V)) → FitsBy fits n.undo now → CanInOrder (undone_by undone n.undo now) ns → CanInOrder now (ns ++ n ∷ [])
  can_more now [] n fit can = (fit, tt)
  can_more now (x ∷ ns) n fit can = (subst (FitsBy fits x.undo) (sym (before_more (undone_by undone) ns n now)) can.0, can_more now ns n fit can.1)

  can_less : (now : Option V) (ns : List (RawNote (PutBack V))) (n : RawNote (PutBack V)) → CanInOrder now (ns ++ n ∷ []) → FitsBy fits n.undo now × CanInOrder (undone_by undone n.undo now) ns
  can_less now [] n can = (can.0, tt)
  can_less now (x ∷ ns) n can =
      let rest = can_less now ns n can.1 in
      (rest.0, (subst (FitsBy fits x.undo) (before_more (undone_by undone) ns n now) can.0, rest.1))

  pub in_turn : (now : Option V) (rs : List (RawNote (PutBack V))) → CanGoBack (FitsBy fits) (undone_by undone) now rs → CanInOrder now (reverse rs)
  in_turn now [] can = tt
  in_turn now (r ∷ rs) can = subst (CanInOrder now) (sym (reverse_onto rs r [])) (can_more now (reverse rs) r can.0 (in_turn (undone_by undone r.undo now) rs can.1))

  back_again : (now : Option V) (rs : List (RawNote (PutBack V))) → CanInOrder now (reverse rs) → CanGoBack (FitsBy fits) (undone_by undone) now rs
  back_again now [] can = tt
  back_again now (r ∷ rs) can =
      let parts = can_less now (reverse rs) r (subst (CanInOrder now) (reverse_onto rs r []) can) in
      (parts.0, back_again (undone_by undone r.undo now) rs parts.1)

  can_joined : (now : Option V) (p : Option (RawNote (PutBack V))) (i : ℕ) (ns : List (RawNote (PutBack V))) → CanInOrder now ns → CanInOrder now (joined_from whole p i ns)
  can_joined now p i [] can = tt
  can_joined now p zero (n ∷ ns) can =
      elim (is_covered whole p n.tags) as (λ b. CanInOrder now (cond b (joined_from whole p zero ns) (n ∷ joined_from whole (Some n) zero ns))) [
        | true ↦ can_joined now p zero ns can.1
        | false ↦ (fits_before now n zero ns can.0, can_joined now (Some n) zero ns can.1)
      ]
  can_joined now p (suc i) (n ∷ ns) can = (fits_before now n i ns can.0, can_joined now (Some n) i ns can.1)

  pub joined_can : (now : Option V) (i : ℕ) (ns : List (RawNote (PutBack V))) → CanGoBack (FitsBy fits) (undone_by undone) now (reverse ns) → CanGoBack (FitsBy fits) (undone_by undone) now (reverse (joined_from whole None i ns))
  joined_can now i ns can =
      back_again now (reverse (joined_from whole None i ns))
      (subst (CanInOrder now) (sym (reverse-reverse (joined_from whole None i ns)))
      (can_joined now None i ns (subst (CanInOrder now) (reverse-reverse ns) (in_turn now (reverse ns) can))))
