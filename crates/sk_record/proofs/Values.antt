-- The value that an entity has after a run, read off its effects.
use Rattle.sk_record.proofs.Names.{◌≡◌, ℕ, zero, suc, ◌<◌, Bool, true, false, cond, ◌||◌, List, [], ◌∷◌, ◌++◌, map}
use Rattle.sk_record.proofs.Names.{take, Option, Some, Result, Ok, Err, refl, sym, ◌∙◌, ap, subst, arith, slice_get}
use Rattle.sk_record.proofs.Names.{list_any, Ordering, eq_by_cmp, IsTotalOrder, eq_by_cmp_equiv, FinMap, get, or_parts}
use Rattle.sk_record.proofs.Names.{or_left, or_right, true≢false, or_from, false_from_ne_true, list_any-append, Effect}
use Rattle.sk_record.proofs.Names.{MarkedEffect, is_in, hit, hits, dirtied, keep, writes, touches, written_value}
use Rattle.sk_record.proofs.Names.{value_after, System, put, put_all, outcome, after, run, marked_effect, effects}
use Rattle.sk_record.proofs.Sets.{get-put}

module _ {E : Type 0} {R : E → E → Ordering} (total : IsTotalOrder R) where
  -- entities that compare alike are in the same lists
  pub is_in_tied : (es : List E) (e x : E) → eq_by_cmp R e x ≡ true → is_in R es e ≡ is_in R es x
  is_in_tied [] e x tied = refl
  is_in_tied (y ∷ es) e x tied = λ i. (eq_by_cmp_equiv total).congr e x y tied i || is_in_tied es e x tied i

  -- lists that share an entity
  pub shared : (es dirty : List E) (e : E) → is_in R es e ≡ true → is_in R dirty e ≡ true → list_any (is_in R dirty) es ≡ true
  shared [] dirty e here dirt = absurd (true≢false (sym here))
  shared (x ∷ es) dirty e here dirt =
      elim (eq_by_cmp R e x) as (λ b. eq_by_cmp R e x ≡ b → (b || is_in R es e) ≡ true → (is_in R dirty x || list_any (is_in R dirty) es) ≡ true) [
        | true ↦ λ tied _. or_left _ _ (sym (is_in_tied dirty e x tied) ∙ dirt)
        | false ↦ λ _ rest. or_right _ _ (shared es dirty e rest dirt)
      ] refl here

module _ {E V : Type 0} (R : E → E → Ordering) where
  pub written_other : (ws : List (E × Option V)) (e : E) (v : Option V) → is_in R (map (λ w. w.0) ws) e ≡ false → written_value R ws e v ≡ v
  written_other [] e v none = refl
  written_other (w ∷ ws) e v none =
      let parts = or_parts _ _ none in
      ap (λ b. written_value R ws e (cond b w.1 v)) parts.0 ∙ written_other ws e v parts.1

  pub get-put_all : IsTotalOrder R → (ws : List (E × Option V)) (s : FinMap R V) (e : E) → get (put_all ws s) e ≡ written_value R ws e (get s e)
  get-put_all total [] s e = refl
  get-put_all total (w ∷ ws) s e = get-put_all total ws (put s w.0 w.1) e ∙ ap (written_value R ws e) (get-put total s w.0 w.1 e)

  module _ {W : Type 0} where
    -- the position is struck, and writes the entity
    abbrev pub StruckWrite : List Bool → List (MarkedEffect E V W) → E → ℕ → Type 0
    StruckWrite flags ts e i = (slice_get flags i ≡ Some true) × ((f : MarkedEffect E V W) × (slice_get ts i ≡ Some f) × (is_in R (writes f) e ≡ true))

module _ {E V W : Type 0} {R : E → E → Ordering} (total : IsTotalOrder R) where
  -- a step that does not depend on the guess writes no dirty entity
  pub unwritten : (g : ℕ) (dirty : List E) (f : MarkedEffect E V W) (e : E) → hit R g dirty f ≡ false → is_in R dirty e ≡ true → is_in R (writes f) e ≡ false
  unwritten g dirty f e is dirt =
      false_from_ne_true _ (λ here. true≢false (
      sym (shared total (touches f) dirty e (list_any-append (eq_by_cmp R e) (map (λ r. r.0) f.read) (writes f) ∙ or_right _ _ here) dirt)
      ∙ (or_parts _ _ is).1))

  module _ (g : ℕ) where
    -- no surviving step writes a dirty entity
    pub frozen : (dirty : List E) (ts : List (MarkedEffect E V W)) (e : E) (v : Option V) → is_in R dirty e ≡ true → value_after R (keep (hits R g dirty ts) ts) e v ≡ v
    frozen dirty [] e v dirt = refl
    frozen dirty (f ∷ ts) e v dirt =
        elim (hit R g dirty f) as (λ b. hit R g dirty f ≡ b → value_after R (keep (b ∷ hits R g (dirtied b f dirty) ts) (f ∷ ts)) e v ≡ v) [
          | true ↦ λ _. frozen (writes f ++ dirty) ts e v (list_any-append (eq_by_cmp R e) (writes f) dirty ∙ or_right _ _ dirt)
          | false ↦ λ is. frozen dirty ts e (written_value R f.written e v) dirt ∙ written_other R f.written e v (unwritten g dirty f e is dirt)
        ] refl

    -- up to the first struck write of an entity, the surviving steps leave the value that all leave
    pub value_at_first : (dirty : List E) (ts : List (MarkedEffect E V W)) (e : E) (v : Option V) (i : ℕ) → is_in R dirty e ≡ false
        → StruckWrite R (hits R g dirty ts) ts e i → ((j : ℕ) → j < i → StruckWrite R (hits R g dirty ts) ts e j → ⊥)
        → value_after R (keep (hits R g dirty ts) ts) e v ≡ value_after R (take i ts) e v
    value_at_first dirty [] e v i clean at first = cc
    value_at_first dirty (f ∷ ts) e v zero clean at first =
        elim (hit R g dirty f) as (λ b. StruckWrite R (b ∷ hits R g (dirtied b f dirty) ts) (f ∷ ts) e zero → value_after R (keep (b ∷ hits R g (dirtied b f dirty) ts) (f ∷ ts)) e v ≡ v) [
          | true ↦ λ at.
              let is : at.1.0 ≡ f = cc in
              let P : MarkedEffect E V W → Type 0 = λ h. is_in R (writes h) e ≡ true in
              frozen (writes f ++ dirty) ts e v (list_any-append (eq_by_cmp R e) (writes f) dirty ∙ or_left _ _ (subst P is at.1.2))
          | false ↦ λ at. cc
        ] at
    value_at_first dirty (f ∷ ts) e v (suc i) clean at first =
        elim (hit R g dirty f) as (λ b. hit R g dirty f ≡ b
        → StruckWrite R (b ∷ hits R g (dirtied b f dirty) ts) (f ∷ ts) e (suc i)
        → ((j : ℕ) → j < suc i → StruckWrite R (b ∷ hits R g (dirtied b f dirty) ts) (f ∷ ts) e j → ⊥)
        → value_after R (keep (b ∷ hits R g (dirtied b f dirty) ts) (f ∷ ts)) e v ≡ value_after R (take i ts) e (written_value R f.written e v)) [
          | true ↦ λ is at first.
              let none : is_in R (writes f) e ≡ false = false_from_ne_true _ (λ here. first 0 (omega arith) (refl, (f, refl, here))) in
              value_at_first (writes f ++ dirty) ts e v i (list_any-append (eq_by_cmp R e) (writes f) dirty ∙ or_from _ _ none clean) at (λ j lt. first (suc j) (omega arith))
              ∙ ap (value_after R (take i ts) e) (sym (written_other R f.written e v none))
          | false ↦ λ is at first. value_at_first dirty ts e (written_value R f.written e v) i clean at (λ j lt. first (suc j) (omega arith))
        ] refl at first

    -- and where no struck step writes the entity, they leave its last value
    pub value_at_end : (dirty : List E) (ts : List (MarkedEffect E V W)) (e : E) (v : Option V) → is_in R dirty e ≡ false
        → ((j : ℕ) → StruckWrite R (hits R g dirty ts) ts e j → ⊥)
        → value_after R (keep (hits R g dirty ts) ts) e v ≡ value_after R ts e v
    value_at_end dirty [] e v clean none = refl
    value_at_end dirty (f ∷ ts) e v clean none =
        elim (hit R g dirty f) as (λ b. ((j : ℕ) → StruckWrite R (b ∷ hits R g (dirtied b f dirty) ts) (f ∷ ts) e j → ⊥)
        → value_after R (keep (b ∷ hits R g (dirtied b f dirty) ts) (f ∷ ts)) e v ≡ value_after R ts e (written_value R f.written e v)) [
          | true ↦ λ none.
              let no : is_in R (writes f) e ≡ false = false_from_ne_true _ (λ here. none 0 (refl, (f, refl, here))) in
              value_at_end (writes f ++ dirty) ts e v (list_any-append (eq_by_cmp R e) (writes f) dirty ∙ or_from _ _ no clean) (λ j. none (suc j))
              ∙ ap (value_after R ts e) (sym (written_other R f.written e v no))
          | false ↦ λ none. value_at_end dirty ts e (written_value R f.written e v) clean (λ j. none (suc j))
        ] none

module _ {E V W F N : Type 0} (K : System E V W F N) (total : IsTotalOrder K.order) where
  get_after : (o : Result (Effect E V W) F) (g : Option ℕ) (s : FinMap K.order V) (e : E) → get (after K o s) e ≡ written_value K.order (marked_effect K g o).written e (get s e)
  get_after (Ok f) g s e = get-put_all K.order total f.written s e
  get_after (Err why) g s e = refl

  -- the effects says each value
  pub get-run : (s : FinMap K.order V) (ns : List N) (e : E) → get (run K s ns) e ≡ value_after K.order (effects K s ns) e (get s e)
  get-run s [] e = refl
  get-run s (n ∷ ns) e =
      get-run (after K (outcome K s n) s) ns e
      ∙ ap (value_after K.order (effects K (after K (outcome K s n) s) ns) e) (get_after (outcome K s n) (K.mark n) s e)

  pub effects-take : (i : ℕ) (s : FinMap K.order V) (ns : List N) → effects K s (take i ns) ≡ take i (effects K s ns)
  effects-take zero s ns = refl
  effects-take (suc i) s [] = refl
  effects-take (suc i) s (n ∷ ns) = ap (λ fs. marked_effect K (K.mark n) (outcome K s n) ∷ fs) (effects-take i (after K (outcome K s n) s) ns)
