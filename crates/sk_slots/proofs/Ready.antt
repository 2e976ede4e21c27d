-- The note that is ready for the next write, and those before it.
use Rattle.sk_slots.proofs.Names.{◌≡◌, ℕ, zero, suc, ◌-◌, ◌<◌, length, take, Bool, true, false, List, [], ◌∷◌, ◌++◌, Some}
use Rattle.sk_slots.proofs.Names.{refl, sym, ◌∙◌, ap, arith, slice_set, true≢false, exact_bytes, same_tags, same_Some, Kept}
use Rattle.sk_slots.proofs.Names.{newest_tags, ready_tags, slice_index_or, without_ready, Before, is_none, not}
use Rattle.sk_slots.proofs.Undoing.{long_more, newest_at, newest_more}

module _ {V U : Type 0} where
  -- one is put behind the others
  pub front_more : (ks : List (Kept V U)) (k : Kept V U) (i : ℕ) → i ≡ length ks → take i (ks ++ k ∷ []) ≡ ks
  front_more [] k zero is = refl
  front_more [] k (suc i) is = absurd (omega arith)
  front_more (x ∷ ks) k zero is = absurd (omega arith)
  front_more (x ∷ ks) k (suc i) is = ap (λ ns. x ∷ ns) (front_more ks k i (omega arith))

  -- the last is written
  pub filled : (ks : List (Kept V U)) (one : Kept V U) (j : ℕ) → suc j ≡ length ks → slice_set ks j one ≡ take j ks ++ one ∷ []
  filled [] one j is = absurd (omega arith)
  filled (x ∷ []) one zero is = refl
  filled (x ∷ []) one (suc j) is = absurd (omega arith)
  filled (x ∷ y ∷ ks) one zero is = absurd (omega arith)
  filled (x ∷ y ∷ ks) one (suc j) is = ap (λ ns. x ∷ ns) (filled (y ∷ ks) one j (omega arith))

  -- there is one where a write is to be noted
  pub some_ready : (has_ready : Bool) (ks : List (Kept V U)) (tags : List ℕ) → same_tags tags (newest_tags [] (without_ready has_ready ks)) ≡ false → ready_tags has_ready ks ≡ Some tags
      → (0 < length ks) × (has_ready ≡ true) × (newest_tags [] ks ≡ tags)
  some_ready false ks tags off is = cc
  some_ready true [] tags off is = absurd (true≢false (sym ((exact_bytes tags []).1 (sym (same_Some [] tags is))) ∙ off))
  some_ready true (k ∷ ks) tags off is = (omega arith, refl, same_Some _ tags is)

  -- what puts a write back stands in it
  pub newest_filled : (has_ready : Bool) (ks : List (Kept V U)) (tags : List ℕ) (j : ℕ) (m one : Kept V U) (before : Before V U) → same_tags tags (newest_tags [] (without_ready has_ready ks)) ≡ false
      → ready_tags has_ready ks ≡ Some tags → suc j ≡ length ks → m ≡ slice_index_or ks j m → one ≡ record { tags = m.tags; before = before }
      → (slice_set ks j one ≡ without_ready has_ready ks ++ record { tags = m.tags; before = before } ∷ []) × (m.tags ≡ tags)
  newest_filled has_ready ks tags j m one before off is last at of =
      let ready = some_ready has_ready ks tags off is in
      let place : length ks - 1 ≡ j = omega (arith, last) in
      let front : without_ready has_ready ks ≡ take j ks = ap (λ b. without_ready b ks) ready.1 ∙ ap (λ i. take i ks) place in (
        ap (slice_set ks j) of ∙ filled ks (record { tags = m.tags; before = before }) j last ∙ ap (λ ns. ns ++ record { tags = m.tags; before = before } ∷ []) (sym front),
        newest_at [] ks m j (omega (arith, last)) at ∙ ready.2,
      )

  -- one that is made ready stands behind the others
  pub ready_more : (ks : List (Kept V U)) (k : Kept V U) → (without_ready true (ks ++ k ∷ []) ≡ ks) × (ready_tags true (ks ++ k ∷ []) ≡ Some k.tags)
  ready_more ks k =
      let long = long_more ks k in
      (front_more ks k (length (ks ++ k ∷ []) - 1) (omega (arith, long)), ap Some (newest_more [] ks k))

pub ready_none : {V U : Type 0} (has_ready : Bool) (ks : List (Kept V U)) → is_none (ready_tags has_ready ks) ≡ not has_ready
ready_none true ks = refl
ready_none false ks = refl
