-- The place of a key, under its digest or by its bytes, as writes come.
use Rattle.sk_commands.proofs.Names.{◌≡◌, ℕ, ◌+◌, ◌<◌, Bool, true, false, cond, List, [], ◌∷◌, ◌++◌, length, Option, Some, None}
use Rattle.sk_commands.proofs.Names.{bytes_eq, if◌then◌else◌, refl, sym, ap, subst, ◌∙◌, slice_get, is_eq, lookup, is_at, arith}
use Rattle.sk_commands.proofs.Names.{Equal, nat_cmp, nat_cmp-IsAntisymmetric, tied_itself, nat_cmp_total}
use Rattle.sk_commands.proofs.Placings.{below_on, earlier_at, equal, last_of, longer, one_more_last, same_test, tied_is}
use Rattle.sk_commands.specs.Noted.{digest_of, first_under, goes_first, is_of, place_in, place_of, write_at, AreKept, Kept}
use Rattle.sk_commands.specs.declared.noted.Places.{Places}

eq_of : (a b : List ℕ) → bytes_eq a b ≡ true → a ≡ b
eq_of a b e = tied_is a b (equal _ (same_test a b ∙ e))

same_digest : (x y : ℕ) → is_eq (nat_cmp x y) ≡ true → x ≡ y
same_digest x y e = nat_cmp-IsAntisymmetric x y (equal _ e)

own_digest : (x y : ℕ) → x ≡ y → is_eq (nat_cmp x y) ≡ true
own_digest x y e = ap is_eq (subst (λ z. nat_cmp x z ≡ Equal) e (tied_itself nat_cmp_total x))

-- keys with different digests differ
apart : (q k : List ℕ) → is_eq (nat_cmp (digest_of k) (digest_of q)) ≡ false → bytes_eq q k ≡ false
apart q k e =
    elim (bytes_eq q k) as (λ b. bytes_eq q k ≡ b → b ≡ false) [
      | true ↦ λ t. let wrong : true ≡ false = sym (own_digest (digest_of k) (digest_of q) (ap digest_of (sym (eq_of q k t)))) ∙ e in cc
      | false ↦ λ t. refl
    ] refl

-- the place of a key, by what is found under its digest and by its bytes
abbrev found : List ℕ → List Kept → Option ℕ → Option ℕ → Option ℕ
found q ws first other = if is_of q (write_at ws first) then first else other

-- ---- the first key of a digest

not_own_at : (q k : List ℕ) (it : Option Kept) (first other : Option ℕ) → is_of k it ≡ true → bytes_eq q k ≡ false → (if is_of q it then first else other) ≡ other
not_own_at q k None first other goes differs = cc
not_own_at q k (Some v) first other goes differs = ap (λ b. if b then first else other) (ap (bytes_eq q) (sym (eq_of k v.0.items goes)) ∙ differs)

-- what was there is of the key itself, or nothing was, so another key has its place by its bytes
not_own : (q k : List ℕ) (ws : List Kept) (first other : Option ℕ) → goes_first k ws first ≡ true → bytes_eq q k ≡ false → found q ws first other ≡ other
not_own q k ws None other goes differs = refl
not_own q k ws (Some i) other goes differs = not_own_at q k (slice_get ws i) (Some i) other goes differs

at_last : (q : List ℕ) (ws : List Kept) (w : Kept) (other : Option ℕ) → found q (ws ++ w ∷ []) (Some (length ws)) other ≡ cond (bytes_eq q w.0.items) (Some (length ws)) other
at_last q ws w other = ap (λ x. if is_of q x then Some (length ws) else other) (last_of ws w)

by_test : (b : Bool) (x y z : Option ℕ) → (b ≡ false → y ≡ z) → cond b x y ≡ cond b x z
by_test true x y z same = refl
by_test false x y z same = same refl

-- a key under the digest of the one that is written
with_digest : (q : List ℕ) (ws : List Kept) (w : Kept) (first old other : Option ℕ) → first ≡ Some (length ws) → goes_first w.0.items ws old ≡ true
    → found q (ws ++ w ∷ []) first other ≡ cond (bytes_eq q w.0.items) (Some (length ws)) (found q ws old other)
with_digest q ws w first old other is goes =
    ap (λ f. found q (ws ++ w ∷ []) f other) is
    ∙ at_last q ws w other
    ∙ by_test (bytes_eq q w.0.items) (Some (length ws)) other (found q ws old other) (λ e. sym (not_own q w.0.items ws old other goes e))

-- a key under another digest
with_another : (q : List ℕ) (ws : List Kept) (w : Kept) (first old other : Option ℕ) → bytes_eq q w.0.items ≡ false → first ≡ old → ((i : ℕ) → old ≡ Some i → i < length ws)
    → found q (ws ++ w ∷ []) first other ≡ cond (bytes_eq q w.0.items) (Some (length ws)) (found q ws old other)
with_another q ws w first old other differs is below =
    ap (λ f. found q (ws ++ w ∷ []) f other) is
    ∙ ap (λ x. if is_of q x then old else other) (earlier_at ws w old below)
    ∙ ap (λ b. cond b (Some (length ws)) (found q ws old other)) (sym differs)

module _ (p new : Places) (ws : List Kept) (w : Kept) where
  abbrev old_first : List ℕ → Option ℕ
  old_first q = first_under p.firsts.entries q

  abbrev new_first : List ℕ → Option ℕ
  new_first q = first_under new.firsts.entries q

  -- the place under the digest of the key that is written is that of the write
  abbrev PutsFirst : Type 0
  PutsFirst = (q : List ℕ) → new_first q ≡ cond (is_eq (nat_cmp (digest_of w.0.items) (digest_of q))) (Some (length ws)) (old_first q)

  first_place : goes_first w.0.items ws (old_first w.0.items) ≡ true → PutsFirst → new.others.entries ≡ p.others.entries → AreKept p ws
      → (q : List ℕ) → place_of new (ws ++ w ∷ []) q ≡ cond (bytes_eq q w.0.items) (Some (length ws)) (place_of p ws q)
  first_place goes puts same kept q =
      ap (λ os. found q (ws ++ w ∷ []) (new_first q) (place_in os q)) same
      ∙ elim (is_eq (nat_cmp (digest_of w.0.items) (digest_of q))) as (λ b. is_eq (nat_cmp (digest_of w.0.items) (digest_of q)) ≡ b → found q (ws ++ w ∷ []) (new_first q) (place_in p.others.entries q) ≡ cond (bytes_eq q w.0.items) (Some (length ws)) (place_of p ws q)) [
        | true ↦ λ e.
            with_digest q ws w (new_first q) (old_first q) (place_in p.others.entries q)
            (puts q ∙ ap (λ b. cond b (Some (length ws)) (old_first q)) e)
            (ap (λ d. goes_first w.0.items ws (lookup (is_at (nat_cmp d)) p.firsts.entries)) (sym (same_digest _ _ e)) ∙ goes)
        | false ↦ λ e.
            with_another q ws w (new_first q) (old_first q) (place_in p.others.entries q) (apart q w.0.items e)
            (puts q ∙ ap (λ b. cond b (Some (length ws)) (old_first q)) e) (kept.firsts_below q)
      ] refl

  pub first_kept : goes_first w.0.items ws (old_first w.0.items) ≡ true → PutsFirst → new.others.entries ≡ p.others.entries → AreKept p ws → AreKept new (ws ++ w ∷ [])
  first_kept goes puts same kept = record {
    last = one_more_last (place_of p ws) (place_of new (ws ++ w ∷ [])) ws w (first_place goes puts same kept) kept.last;
    firsts_below = λ q i e.
        subst (λ n. i < n) (sym (longer ws w))
        (below_on (is_eq (nat_cmp (digest_of w.0.items) (digest_of q))) (old_first q) (length ws) i (kept.firsts_below q) (sym (puts q) ∙ e));
  }

-- ---- keys whose digest another key had

not_first : (k : List ℕ) (ws : List Kept) (first : Option ℕ) → goes_first k ws first ≡ false → is_of k (write_at ws first) ≡ false
not_first k ws None goes = cc
not_first k ws (Some i) goes = goes

behind : (b t : Bool) (first place other : Option ℕ) → (b ≡ true → t ≡ false) → (if t then first else cond b place other) ≡ cond b place (if t then first else other)
behind true true first place other never = let wrong : true ≡ false = never refl in cc
behind true false first place other never = refl
behind false t first place other never = refl

later : (n i : ℕ) → i < n → i < n + 1
later n i less = omega arith

module _ (p new : Places) (ws : List Kept) (w : Kept) where
  -- the place by the bytes of the key that is written is that of the write
  abbrev PutsOther : Type 0
  PutsOther = (q : List ℕ) → place_in new.others.entries q ≡ cond (bytes_eq q w.0.items) (Some (length ws)) (place_in p.others.entries q)

  other_place : goes_first w.0.items ws (first_under p.firsts.entries w.0.items) ≡ false → PutsOther → new.firsts.entries ≡ p.firsts.entries → AreKept p ws
      → (q : List ℕ) → place_of new (ws ++ w ∷ []) q ≡ cond (bytes_eq q w.0.items) (Some (length ws)) (place_of p ws q)
  other_place goes puts same kept q =
      let first = first_under p.firsts.entries q in
      ap (λ fs. found q (ws ++ w ∷ []) (first_under fs q) (place_in new.others.entries q)) same
      ∙ ap (λ x. if is_of q x then first else place_in new.others.entries q) (earlier_at ws w first (kept.firsts_below q))
      ∙ ap (found q ws first) (puts q)
      ∙ behind (bytes_eq q w.0.items) (is_of q (write_at ws first)) first (Some (length ws)) (place_in p.others.entries q)
      (λ e. subst (λ k. is_of k (write_at ws (first_under p.firsts.entries k)) ≡ false) (sym (eq_of q w.0.items e)) (not_first w.0.items ws (first_under p.firsts.entries w.0.items) goes))

  pub other_kept : goes_first w.0.items ws (first_under p.firsts.entries w.0.items) ≡ false → PutsOther → new.firsts.entries ≡ p.firsts.entries → AreKept p ws → AreKept new (ws ++ w ∷ [])
  other_kept goes puts same kept = record {
    last = one_more_last (place_of p ws) (place_of new (ws ++ w ∷ [])) ws w (other_place goes puts same kept) kept.last;
    firsts_below = λ q i e. subst (λ n. i < n) (sym (longer ws w)) (later (length ws) i (kept.firsts_below q i (ap (λ fs. first_under fs q) (sym same) ∙ e)));
  }
