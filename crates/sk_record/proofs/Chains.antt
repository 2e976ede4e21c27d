-- The flags that are computed from left to right are those of the positions that chains of feeds lead to.
use Rattle.sk_record.proofs.Names.{◌≡◌, ℕ, zero, suc, ◌<◌, Bool, true, false, List, [], ◌∷◌, Option, Some, None, inl}
use Rattle.sk_record.proofs.Names.{inr, refl, sym, ◌∙◌, ap, subst, arith, slice_get, ◌⊎◌, ◌↔◌, list_any, Contains}
use Rattle.sk_record.proofs.Names.{Ordering, eq_by_cmp, IsTotalOrder, eq_by_cmp_equiv, Equal-is, IsAntisymmetric}
use Rattle.sk_record.proofs.Names.{or_cases, or_left, or_right, true≢false, eqb-true, eq-eqb, list_any-append}
use Rattle.sk_record.proofs.Names.{list_any-from_Contains, Contains-from_any, MarkedEffect, Dep, itself, fed, is_in}
use Rattle.sk_record.proofs.Names.{is_marked, hit, hits, dirt, dirtied, keep, place, writes, touches}
use Rattle.sk_record.proofs.Values.{shared, StruckWrite}

pub slice_get-keep : {A : Type 0} (bs : List Bool) (xs : List A) (k : ℕ) → slice_get (keep bs xs) k ≡ slice_get xs (place bs k)
slice_get-keep [] xs k = refl
slice_get-keep (b ∷ bs) [] k = refl
slice_get-keep (true ∷ bs) (x ∷ xs) k = slice_get-keep bs xs k
slice_get-keep (false ∷ bs) (x ∷ xs) zero = refl
slice_get-keep (false ∷ bs) (x ∷ xs) (suc k) = slice_get-keep bs xs k

mark_is : (m : Option ℕ) (g : ℕ) → is_marked m g ≡ true → m ≡ Some g
mark_is None g h = absurd (true≢false (sym h))
mark_is (Some x) g h = ap Some (eqb-true x g h)

is_mark : (m : Option ℕ) (g : ℕ) → m ≡ Some g → is_marked m g ≡ true
is_mark m g h = subst (λ m. is_marked m g ≡ true) (sym h) (eq-eqb g g refl)

module _ {E : Type 0} {R : E → E → Ordering} (total : IsTotalOrder R) where
  -- an entity that two lists share
  some_shared : (dirty es : List E) → list_any (is_in R dirty) es ≡ true → (e : E) × (is_in R es e ≡ true) × (is_in R dirty e ≡ true)
  some_shared dirty [] h = absurd (true≢false (sym h))
  some_shared dirty (x ∷ es) h =
      elim (or_cases _ _ h) [
        | inl here ↦ (x, or_left _ _ ((eq_by_cmp_equiv total).refl x), here)
        | inr rest ↦ let more = some_shared dirty es rest in (more.0, or_right _ _ more.1, more.2)
      ]

  pub in_from : IsAntisymmetric R → (es : List E) (e : E) → is_in R es e ≡ true → Contains es e
  in_from exact es e h = Contains-from_any {eq = eq_by_cmp R} (λ x y is. exact x y ((Equal-is (R x y)).0 is)) e es h

  pub from_in : (es : List E) (e : E) → Contains es e → is_in R es e ≡ true
  from_in es e h = list_any-from_Contains (eq_by_cmp_equiv total) e es h

  pub dirtied_more : {V W : Type 0} (b : Bool) (f : MarkedEffect E V W) (dirty : List E) (e : E) → is_in R dirty e ≡ true → is_in R (dirtied b f dirty) e ≡ true
  dirtied_more true f dirty e h = list_any-append (eq_by_cmp R e) (writes f) dirty ∙ or_right _ _ h
  dirtied_more false f dirty e h = h

module _ {E V W : Type 0} {R : E → E → Ordering} (total : IsTotalOrder R) (g : ℕ) where
  -- why a position depends on g
  abbrev Source : List E → List (MarkedEffect E V W) → ℕ → Type 0
  Source dirty ts i =
      (f : MarkedEffect E V W) × (slice_get ts i ≡ Some f)
      × ((is_marked f.mark g ≡ true) ⊎ ((e : E) × (is_in R (touches f) e ≡ true)
      × ((is_in R dirty e ≡ true) ⊎ ((j : ℕ) × (j < i) × StruckWrite R (hits R g dirty ts) ts e j))))

  step_back : (dirty : List E) (f : MarkedEffect E V W) (ts : List (MarkedEffect E V W)) (i : ℕ) (e : E) (b : Bool) → hit R g dirty f ≡ b
      → is_in R (dirtied b f dirty) e ≡ true
      → (is_in R dirty e ≡ true) ⊎ ((j : ℕ) × (j < suc i) × StruckWrite R (hits R g dirty (f ∷ ts)) (f ∷ ts) e j)
  step_back dirty f ts i e true is h =
      elim (or_cases _ _ (sym (list_any-append (eq_by_cmp R e) (writes f) dirty) ∙ h)) [
        | inl here ↦ inr (0, omega arith, (ap Some is, (f, refl, here)))
        | inr before ↦ inl before
      ]
  step_back dirty f ts i e false is h = inl h

  source : (dirty : List E) (ts : List (MarkedEffect E V W)) (i : ℕ) → slice_get (hits R g dirty ts) i ≡ Some true → Source dirty ts i
  source dirty [] i h = cc
  source dirty (f ∷ ts) zero h =
      let is : hit R g dirty f ≡ true = cc in
      elim (or_cases _ _ is) [
        | inl m ↦ (f, refl, inl m)
        | inr d ↦ let at = some_shared total dirty (touches f) d in (f, refl, inr (at.0, at.1, inl at.2))
      ]
  source dirty (f ∷ ts) (suc i) h =
      let before = source (dirtied (hit R g dirty f) f dirty) ts i h in
      elim before.2 [
        | inl m ↦ (before.0, before.1, inl m)
        | inr d ↦ (
          before.0,
          before.1,
          inr (
            d.0,
            d.1,
            elim d.2 [
              | inl e ↦ step_back dirty f ts i d.0 (hit R g dirty f) refl e
              | inr w ↦ inr (suc w.0, omega arith, w.2)
            ],
          ),
        )
      ]

  dirty_hit : (dirty : List E) (ts : List (MarkedEffect E V W)) (i : ℕ) (f : MarkedEffect E V W) (e : E) → is_in R dirty e ≡ true → slice_get ts i ≡ Some f → is_in R (touches f) e ≡ true → slice_get (hits R g dirty ts) i ≡ Some true
  dirty_hit dirty [] i f e d at t = cc
  dirty_hit dirty (x ∷ ts) zero f e d at t =
      let is : f ≡ x = cc in
      let P : MarkedEffect E V W → Type 0 = λ y. is_in R (touches y) e ≡ true in
      ap Some (or_right _ _ (shared total (touches x) dirty e (subst P is t) d))
  dirty_hit dirty (x ∷ ts) (suc i) f e d at t = dirty_hit (dirtied (hit R g dirty x) x dirty) ts i f e (dirtied_more total (hit R g dirty x) x dirty e d) at t

  fed_hit : (dirty : List E) (ts : List (MarkedEffect E V W)) (j i : ℕ) (from to : MarkedEffect E V W) (e : E) → j < i → slice_get (hits R g dirty ts) j ≡ Some true
      → slice_get ts j ≡ Some from → is_in R (writes from) e ≡ true → slice_get ts i ≡ Some to → is_in R (touches to) e ≡ true → slice_get (hits R g dirty ts) i ≡ Some true
  fed_hit dirty [] j i from to e lt h at_j w at_i t = cc
  fed_hit dirty (x ∷ ts) j zero from to e lt h at_j w at_i t = absurd (omega arith)
  fed_hit dirty (x ∷ ts) zero (suc i) from to e lt h at_j w at_i t =
      let is : hit R g dirty x ≡ true = cc in
      let same : from ≡ x = cc in
      let P : MarkedEffect E V W → Type 0 = λ y. is_in R (writes y) e ≡ true in
      let Q : Bool → Type 0 = λ b. is_in R (dirtied b x dirty) e ≡ true in
      dirty_hit (dirtied (hit R g dirty x) x dirty) ts i to e
      (subst Q (sym is) (list_any-append (eq_by_cmp R e) (writes x) dirty ∙ or_left _ _ (subst P same w))) at_i t
  fed_hit dirty (x ∷ ts) (suc j) (suc i) from to e lt h at_j w at_i t =
      fed_hit (dirtied (hit R g dirty x) x dirty) ts j i from to e (omega arith) h at_j w at_i t

  marked_hit : (dirty : List E) (ts : List (MarkedEffect E V W)) (i : ℕ) (f : MarkedEffect E V W) → slice_get ts i ≡ Some f → is_marked f.mark g ≡ true → slice_get (hits R g dirty ts) i ≡ Some true
  marked_hit dirty [] i f at m = cc
  marked_hit dirty (x ∷ ts) zero f at m =
      let is : f ≡ x = cc in
      let P : MarkedEffect E V W → Type 0 = λ y. is_marked y.mark g ≡ true in
      ap Some (or_left _ _ (subst P is m))
  marked_hit dirty (x ∷ ts) (suc i) f at m = marked_hit (dirtied (hit R g dirty x) x dirty) ts i f at m

  module _ (exact : IsAntisymmetric R) where
    sound : (ts : List (MarkedEffect E V W)) (n i : ℕ) → i < n → slice_get (hits R g [] ts) i ≡ Some true → Dep ts g i
    sound ts zero i lt h = absurd (omega arith)
    sound ts (suc n) i lt h =
        let s = source [] ts i h in
        elim s.2 [
          | inl m ↦ itself (record { marked_effect = s.0; at_i = s.1; mark = mark_is s.0.mark g m })
          | inr d ↦ elim d.2 [
            | inl none ↦ absurd (true≢false (sym none))
            | inr w ↦ fed w.0 (sound ts n w.0 (omega arith) w.2.0) (record {
              earlier = w.1;
              from = w.2.1.0;
              to = s.0;
              at_j = w.2.1.1;
              at_i = s.1;
              entity = d.0;
              is_written = in_from total exact _ _ w.2.1.2;
              is_touched = in_from total exact _ _ d.1;
            })
          ]
        ]

    complete : (ts : List (MarkedEffect E V W)) (i : ℕ) → Dep ts g i → slice_get (hits R g [] ts) i ≡ Some true
    complete ts i (itself m) = marked_hit [] ts i m.marked_effect m.at_i (is_mark m.marked_effect.mark g m.mark)
    complete ts i (fed j d f) =
        fed_hit [] ts j i f.from f.to f.entity f.earlier (complete ts j d) f.at_j (from_in total _ _ f.is_written) f.at_i (from_in total _ _ f.is_touched)

    -- the flags and the relation
    pub flags_are_Dep : (ts : List (MarkedEffect E V W)) (i : ℕ) → (slice_get (hits R g [] ts) i ≡ Some true) ↔ Dep ts g i
    flags_are_Dep ts i = (sound ts (suc i) i (omega arith), complete ts i)

module _ {E V W : Type 0} {R : E → E → Ordering} (total : IsTotalOrder R) (g : ℕ) where
  dirt_stays : (dirty : List E) (ts : List (MarkedEffect E V W)) (e : E) → is_in R dirty e ≡ true → is_in R (dirt R g dirty ts) e ≡ true
  dirt_stays dirty [] e h = h
  dirt_stays dirty (f ∷ ts) e h = dirt_stays (dirtied (hit R g dirty f) f dirty) ts e (dirtied_more total (hit R g dirty f) f dirty e h)

  dirt_from : (dirty : List E) (ts : List (MarkedEffect E V W)) (e : E) → is_in R (dirt R g dirty ts) e ≡ true → (is_in R dirty e ≡ true) ⊎ ((i : ℕ) × StruckWrite R (hits R g dirty ts) ts e i)
  dirt_from dirty [] e h = inl h
  dirt_from dirty (f ∷ ts) e h =
      elim (dirt_from (dirtied (hit R g dirty f) f dirty) ts e h) [
        | inl d ↦ elim (step_back total g dirty f ts 0 e (hit R g dirty f) refl d) [ inl before ↦ inl before | inr w ↦ inr (w.0, w.2) ]
        | inr w ↦ inr (suc w.0, w.1)
      ]

  dirt_to : (dirty : List E) (ts : List (MarkedEffect E V W)) (e : E) (i : ℕ) → StruckWrite R (hits R g dirty ts) ts e i → is_in R (dirt R g dirty ts) e ≡ true
  dirt_to dirty [] e i w = cc
  dirt_to dirty (f ∷ ts) e zero w =
      let is : hit R g dirty f ≡ true = cc in
      let same : w.1.0 ≡ f = cc in
      let P : MarkedEffect E V W → Type 0 = λ y. is_in R (writes y) e ≡ true in
      let Q : Bool → Type 0 = λ b. is_in R (dirtied b f dirty) e ≡ true in
      dirt_stays (dirtied (hit R g dirty f) f dirty) ts e
      (subst Q (sym is) (list_any-append (eq_by_cmp R e) (writes f) dirty ∙ or_left _ _ (subst P same w.1.2)))
  dirt_to dirty (f ∷ ts) e (suc i) w = dirt_to (dirtied (hit R g dirty f) f dirty) ts e i w

  -- what a guess has dirtied is what some position that depends on it writes
  pub dirt_is : IsAntisymmetric R → (ts : List (MarkedEffect E V W)) (e : E)
      → (is_in R (dirt R g [] ts) e ≡ true) ↔ ((i : ℕ) × (f : MarkedEffect E V W) × (slice_get ts i ≡ Some f) × Dep ts g i × Contains (writes f) e)
  dirt_is exact ts e = (
    λ h. elim (dirt_from [] ts e h) [
      | inl none ↦ absurd (true≢false (sym none))
      | inr w ↦ (w.0, w.1.1.0, w.1.1.1, (flags_are_Dep total g exact ts w.0).0 w.1.0, in_from total exact _ _ w.1.1.2)
    ],
    λ d. dirt_to [] ts e d.0 ((flags_are_Dep total g exact ts d.0).1 d.3, (d.1, d.2, from_in total _ _ d.4)),
  )
