-- Lists of what is logged: what is left of them where guesses fail, and flags of them.
use Rattle.sk_rests.proofs.Names.{◌≡◌, ℕ, Bool, true, false, not, cond, ◌||◌, List, [], ◌∷◌, ◌++◌, map, Option, Some}
use Rattle.sk_rests.proofs.Names.{None, refl, ◌∙◌, ap, ◌==◌, list_any, filter, Ordering, or_parts, or_from}
use Rattle.sk_rests.proofs.Names.{list_any-append, filter-append, MarkedEffect, is_marked, hit, hits, dirt, dirtied}
use Rattle.sk_rests.proofs.Names.{keep, touches, has, Event, Taken, Commit, Fail, marks, still_marked, is_fail}
use Rattle.sk_rests.proofs.Names.{eqb_turned, or_no, Logged, failed_in, is_struck, kept}

-- whether one of some steps depended on a guess
abbrev pub rested : {N O : Type 0} → ℕ → List (Logged N O) → Bool
rested g log = list_any (λ r. has g r.rests) log

or_four : (a b c d : Bool) → ((a || b) || (c || d)) ≡ ((a || c) || (b || d))
or_four true b c d = refl
or_four false true true d = refl
or_four false true false d = refl
or_four false false c d = refl

module _ {A : Type 0} where
  pub any_or : (p q : A → Bool) (xs : List A) → list_any (λ x. p x || q x) xs ≡ (list_any p xs || list_any q xs)
  any_or p q [] = refl
  any_or p q (x ∷ xs) = ap (λ b. (p x || q x) || b) (any_or p q xs) ∙ or_four (p x) (q x) (list_any p xs)
      (list_any q xs)

  pub filter_both : (p q : A → Bool) (xs : List A)
      → filter (λ x. not (p x || q x)) xs ≡ filter (λ x. not (q x)) (filter (λ x. not (p x)) xs)
  filter_both p q [] = refl
  filter_both p q (x ∷ xs) =
      let rest = filter_both p q xs in
      let all = filter (λ x. not (p x || q x)) xs in
      let first = filter (λ x. not (p x)) xs in
      elim (p x) as
      (λ b. cond (not (b || q x)) (x ∷ all) all ≡ filter (λ x. not (q x)) (cond (not b) (x ∷ first) first)) [
        | true ↦ rest
        | false ↦ ap (λ ys. cond (not (q x)) (x ∷ ys) ys) rest
      ]

  -- what a filter keeps was there
  pub none_kept : (p q : A → Bool) (xs : List A) → list_any p xs ≡ false → list_any p (filter q xs) ≡ false
  none_kept p q [] none = refl
  none_kept p q (x ∷ xs) none =
      let parts = or_parts _ _ none in
      let rest = none_kept p q xs parts.1 in
      elim (q x) as (λ b. list_any p (cond b (x ∷ filter q xs) (filter q xs)) ≡ false) [
        | true ↦ or_from _ _ parts.0 rest
        | false ↦ rest
      ]

  pub all_false : (p : A → Bool) (xs : List A) → list_any p xs ≡ false → map p xs ≡ map (λ x. false) xs
  all_false p [] none = refl
  all_false p (x ∷ xs) none = let parts = or_parts _ _ none in λ i. parts.0 i ∷ all_false p xs parts.1 i

  pub any_map : (p : A → Bool) (xs : List A) → list_any (λ b. b) (map p xs) ≡ list_any p xs
  any_map p [] = refl
  any_map p (x ∷ xs) = ap (λ b. p x || b) (any_map p xs)

module _ {A B : Type 0} where
  pub keep_map : (p : A → Bool) (f : A → B) (xs : List A)
      → keep (map p xs) (map f xs) ≡ map f (filter (λ x. not (p x)) xs)
  keep_map p f [] = refl
  keep_map p f (x ∷ xs) =
      let rest = keep_map p f xs in
      let left = filter (λ x. not (p x)) xs in
      elim (p x) as (λ b. keep (b ∷ map p xs) (f x ∷ map f xs) ≡ map f (cond (not b) (x ∷ left) left)) [
        | true ↦ rest
        | false ↦ ap (λ ys. f x ∷ ys) rest
      ]

  pub map_keep : (f : A → B) (bs : List Bool) (xs : List A) → map f (keep bs xs) ≡ keep bs (map f xs)
  map_keep f [] xs = refl
  map_keep f (b ∷ bs) [] = refl
  map_keep f (true ∷ bs) (x ∷ xs) = map_keep f bs xs
  map_keep f (false ∷ bs) (x ∷ xs) = ap (λ ys. f x ∷ ys) (map_keep f bs xs)

  pub flat : (f : A → B) (xs : List A) → map (λ y. false) (map f xs) ≡ map (λ x. false) xs
  flat f [] = refl
  flat f (x ∷ xs) = ap (λ bs. false ∷ bs) (flat f xs)

module _ {N : Type 0} where
  pub failed_more : (es fs : List (Event N)) → failed_in (es ++ fs) ≡ failed_in es ++ failed_in fs
  failed_more [] fs = refl
  failed_more (Taken n ∷ es) fs = failed_more es fs
  failed_more (Commit g ∷ es) fs = failed_more es fs
  failed_more (Fail g ∷ es) fs = ap (λ gs. g ∷ gs) (failed_more es fs)

  pub failed_is : (es : List (Event N)) (g : ℕ) → has g (failed_in es) ≡ list_any (is_fail g) es
  failed_is [] g = refl
  failed_is (Taken n ∷ es) g = failed_is es g
  failed_is (Commit h ∷ es) g = failed_is es g
  failed_is (Fail h ∷ es) g = ap (λ b. (h == g) || b) (failed_is es g)

module _ {N O : Type 0} where
  struck_by : (gs hs : List ℕ) (r : Logged N O) → is_struck (gs ++ hs) r ≡ (is_struck gs r || is_struck hs r)
  struck_by gs hs r =
      (λ i. list_any (λ g. list_any-append (λ t. t == g) gs hs i) r.rests) ∙ any_or (λ g. has g gs) (λ g. has g hs)
      r.rests

  -- what more guesses leave
  pub kept_more : (gs hs : List ℕ) (log : List (Logged N O)) → kept (gs ++ hs) log ≡ kept hs (kept gs log)
  kept_more gs hs log = (λ i. filter (λ r. not (struck_by gs hs r i)) log) ∙ filter_both (is_struck gs) (is_struck hs)
      log

  pub kept_one : (c : ℕ) (log : List (Logged N O)) → kept (c ∷ []) log ≡ filter (λ r. not (has c r.rests)) log
  kept_one c log = λ i. filter (λ r. not (list_any (λ g. (or_no (c == g) ∙ eqb_turned c g) i) r.rests)) log

  -- and one step more
  pub kept_push : (gs : List ℕ) (log : List (Logged N O)) (r : Logged N O) → is_struck gs r ≡ false
      → kept gs (log ++ r ∷ []) ≡ kept gs log ++ r ∷ []
  kept_push gs log r stands =
      filter-append (λ r. not (is_struck gs r)) log (r ∷ []) ∙ ap (λ b. kept gs log ++ cond (not b) (r ∷ []) []) stands

any_no : {A : Type 0} (xs : List A) → list_any (λ x. false) xs ≡ false
any_no [] = refl
any_no (x ∷ xs) = any_no xs

module _ {E V W : Type 0} (R : E → E → Ordering) where
  pub hits_push : (g : ℕ) (dirty : List E) (ts : List (MarkedEffect E V W)) (f : MarkedEffect E V W)
      → hits R g dirty (ts ++ f ∷ []) ≡ hits R g dirty ts ++ hit R g (dirt R g dirty ts) f ∷ []
  hits_push g dirty [] f = refl
  hits_push g dirty (t ∷ ts) f =
      ap (λ bs. hit R g dirty t ∷ bs) (hits_push g (dirtied (hit R g dirty t) t dirty) ts f)

  -- nothing depends on a guess that marks nothing
  pub no_hits : (g : ℕ) (ts : List (MarkedEffect E V W)) → still_marked ts g ≡ false
      → hits R g [] ts ≡ map (λ f. false) ts
  no_hits g [] none = refl
  no_hits g (f ∷ ts) none =
      let parts = or_parts _ _ none in
      let clean : hit R g [] f ≡ false = or_from _ _ parts.0 (any_no (touches f)) in
      (λ i. clean i ∷ hits R g (dirtied (clean i) f []) ts) ∙ ap (λ bs. false ∷ bs) (no_hits g ts parts.1)

-- whether a mark names a guess
pub marks_is : (own : Option ℕ) (g : ℕ) → has g (marks own) ≡ is_marked own g
marks_is None g = refl
marks_is (Some h) g = or_no (h == g)
