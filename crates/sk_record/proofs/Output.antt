-- The tags of each position, as texts carry them, and what a failure leaves of them.
use Rattle.sk_record.proofs.Names.{◌≡◌, ℕ, true, false, ◌||◌, List, [], ◌∷◌, map, refl, sym, ◌∙◌, ap, filter, Ordering}
use Rattle.sk_record.proofs.Names.{eq_by_cmp, or_parts, MarkedEffect, is_in, is_marked, hit, hits, dirtied, keep}
use Rattle.sk_record.proofs.Names.{writes, touches, has, rests, next_dirty, tags_along}
use Rattle.sk_record.proofs.Sets.{none_of_both}
use Rattle.sk_record.proofs.Later.{SameOff, any_same, dirtied_other, dirtied_same}
use Rattle.sk_record.proofs.Notes.{has_not, has_passed}

module _ {E V W : Type 0} (R : E → E → Ordering) (guesses : List ℕ) where
  -- a position carries g exactly where it depends on it
  pub carries_is : (g : ℕ) → has g guesses ≡ true → (dirty : ℕ → List E) (ts : List (MarkedEffect E V W)) → map (has g) (tags_along R guesses dirty ts) ≡ hits R g (dirty g) ts
  carries_is g is_open dirty [] = refl
  carries_is g is_open dirty (f ∷ ts) =
      let here : has g (rests R guesses dirty f) ≡ hit R g (dirty g) f =
      elim (hit R g (dirty g) f) as (λ b. hit R g (dirty g) f ≡ b → has g (rests R guesses dirty f) ≡ b) [
        | true ↦ λ is. has_passed (λ h. hit R h (dirty h) f) g guesses is is_open
        | false ↦ λ is. has_not (λ h. hit R h (dirty h) f) g guesses is
      ] refl in
      λ i. here i ∷ carries_is g is_open (next_dirty R guesses dirty f) ts i

  -- the survivors of a failure keep their tags
  pub kept_rests : (g : ℕ) (dirty dk : ℕ → List E) → ((h : ℕ) → SameOff R (dirty g) (dirty h) (dk h)) → (ts : List (MarkedEffect E V W))
      → tags_along R guesses dk (keep (hits R g (dirty g) ts) ts) ≡ keep (hits R g (dirty g) ts) (tags_along R guesses dirty ts)
  kept_rests g dirty dk same [] = refl
  kept_rests g dirty dk same (f ∷ ts) =
      elim (hit R g (dirty g) f) as (λ b. hit R g (dirty g) f ≡ b
      → ((dk : ℕ → List E) → ((h : ℕ) → SameOff R (dirtied b f (dirty g)) (next_dirty R guesses dirty f h) (dk h))
      → tags_along R guesses dk (keep (hits R g (dirtied b f (dirty g)) ts) ts) ≡ keep (hits R g (dirtied b f (dirty g)) ts) (tags_along R guesses (next_dirty R guesses dirty f) ts))
      → tags_along R guesses dk (keep (b ∷ hits R g (dirtied b f (dirty g)) ts) (f ∷ ts)) ≡ keep (b ∷ hits R g (dirtied b f (dirty g)) ts) (rests R guesses dirty f ∷ tags_along R guesses (next_dirty R guesses dirty f) ts)) [
        | true ↦ λ is more. more dk (λ h x away.
            let parts = none_of_both (eq_by_cmp R x) (writes f) (dirty g) away in
            dirtied_other R (hit R h (dirty h) f) f (dirty h) x parts.0 ∙ same h x parts.1)
        | false ↦ λ is more.
            let alike : (h : ℕ) → hit R h (dk h) f ≡ hit R h (dirty h) f =
            λ h. ap (λ b. is_marked f.mark h || b) (sym (any_same R (dirty g) (dirty h) (dk h) (same h) (touches f) (or_parts _ _ is).1)) in
            let rest = more (next_dirty R guesses dk f) (λ h x away.
            dirtied_same R (hit R h (dirty h) f) f (dirty h) (dk h) x (same h x away)
            ∙ ap (λ b. is_in R (dirtied b f (dk h)) x) (sym (alike h))) in
            λ i. filter (λ h. alike h i) guesses ∷ rest i
      ] refl (λ dk same. kept_rests g (next_dirty R guesses dirty f) dk same ts)
