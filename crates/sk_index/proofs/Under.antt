-- The places that hashes have after one more, and after one less.
use Rattle.sk_index.proofs.Names.{◌≡◌, ℕ, true, false, Option, Some, None, refl, sym, ap, ◌∙◌, ◌==◌, ◌||◌, Bool, is_at}
use Rattle.sk_index.proofs.Names.{BTreeSet, contains, HashMap, eqb-true, first_under, is_place, is_under, place_cmp}
use Rattle.std.specs.BTreeSet as set
use Rattle.sk_index.proofs.Kept.{exact_place, still_true}

-- a place that is not the first stands among the others
pub among_others : (o : Option ℕ) (n : ℕ) (c : Bool) → (o ≡ Some n → ⊥) → (is_place o n || c) ≡ true → c ≡ true
among_others None n c apart is = is
among_others (Some m) n c apart is =
    elim (m == n) as (λ b. (m == n) ≡ b → (b || c) ≡ true → c ≡ true) [
      | true ↦ λ e _. absurd (apart (ap Some (eqb-true m n e)))
      | false ↦ λ _ there. there
    ] refl is

module _ {S : Type 0} (firsts : HashMap ℕ ℕ S) (old new : BTreeSet (ℕ × ℕ)) (key : ℕ × ℕ) where
  pub others_more : set.Updates place_cmp old new key true
      → (q : ℕ × ℕ) → is_under firsts old q ≡ true → is_under firsts new q ≡ true
  others_more put q is =
      elim (is_place (first_under firsts q.0) q.1)
      as (λ b. (b || contains place_cmp old q) ≡ true → (b || contains place_cmp new q) ≡ true) [
        | true ↦ λ _. refl
        | false ↦ λ there. put.0 q ∙ still_true (is_at (place_cmp key) q) (contains place_cmp old q) there
      ] is

  pub others_less : set.Updates place_cmp old new key false
      → (q : ℕ × ℕ) → (q ≡ key → ⊥) → is_under firsts old q ≡ true → is_under firsts new q ≡ true
  others_less gone q apart is =
      elim (is_place (first_under firsts q.0) q.1)
      as (λ b. (b || contains place_cmp old q) ≡ true → (b || contains place_cmp new q) ≡ true) [
        | true ↦ λ _. refl
        | false ↦ λ there. gone.2 q (not_key (is_at (place_cmp key) q) refl) ∙ there
      ] is
    where
      not_key : (b : Bool) → is_at (place_cmp key) q ≡ b → b ≡ false
      not_key false at = refl
      not_key true at = absurd (apart (sym (exact_place key q at)))
