-- Undo logs give the values of the struck run.
use Rattle.sk_record.proofs.Names.{◌≡◌, ℕ, Bool, true, false, cond, ◌||◌, List, [], ◌∷◌, ◌++◌, Option, refl, sym, ◌∙◌}
use Rattle.sk_record.proofs.Names.{ap, subst, ◌==◌, filter, Ordering, eq_by_cmp, IsTotalOrder, or_parts, or_left}
use Rattle.sk_record.proofs.Names.{or_right, true≢false, or_from, ne_eqb, eqb-true, list_any-append, MarkedEffect}
use Rattle.sk_record.proofs.Names.{is_in, is_marked, hit, hits, dirt, dirtied, keep, writes, touches, written_value}
use Rattle.sk_record.proofs.Names.{value_after, Note, has, noted, cut, unwound, rests, next_dirty, notes_of}
use Rattle.sk_record.proofs.Sets.{none_of_both}
use Rattle.sk_record.proofs.Later.{SameOff, any_same, dirtied_other, dirtied_same}
use Rattle.sk_record.proofs.Values.{unwritten, frozen, written_other}

-- a number that fails the test is not in the filter
pub has_not : (p : ℕ → Bool) (g : ℕ) (gs : List ℕ) → p g ≡ false → has g (filter p gs) ≡ false
has_not p g [] no_g = refl
has_not p g (h ∷ gs) no_g =
    elim (p h) as (λ b. p h ≡ b → has g (cond b (h ∷ filter p gs) (filter p gs)) ≡ false) [
      | true ↦ λ is. or_from _ _ (ne_eqb h g (λ same. true≢false (sym is ∙ ap p same ∙ no_g))) (has_not p g gs no_g)
      | false ↦ λ is. has_not p g gs no_g
    ] refl

-- and one of the list that passes is
pub has_passed : (p : ℕ → Bool) (g : ℕ) (gs : List ℕ) → p g ≡ true → has g gs ≡ true → has g (filter p gs) ≡ true
has_passed p g [] yes_g h = absurd (true≢false (sym h))
has_passed p g (x ∷ gs) yes_g h =
    elim (x == g) as (λ b. (x == g) ≡ b → (b || has g gs) ≡ true → has g (cond (p x) (x ∷ filter p gs) (filter p gs)) ≡ true) [
      | true ↦ λ is _.
          let P : Bool → Type 0 = λ b. has g (cond b (x ∷ filter p gs) (filter p gs)) ≡ true in
          subst P (sym (ap p (eqb-true x g is) ∙ yes_g)) (or_left _ _ is)
      | false ↦ λ _ rest.
          elim (p x) as (λ b. has g (cond b (x ∷ filter p gs) (filter p gs)) ≡ true) [
            | true ↦ or_right _ _ (has_passed p g gs yes_g rest)
            | false ↦ has_passed p g gs yes_g rest
          ]
    ] refl h

module _ {V : Type 0} where
  -- a note whose tags do not have g is passed over, and one whose tags have it ends the cut
  unwound_past : (g : ℕ) (b : Bool) (tags : List ℕ) (v now : Option V) (rest : List (Note V)) → has g tags ≡ false → unwound g (noted b tags v rest) now ≡ unwound g rest now
  unwound_past g false tags v now rest none = refl
  unwound_past g true [] v now rest none = refl
  unwound_past g true (t ∷ tags) v now rest none = ap (λ b. cond b v (unwound g rest now)) none

  unwound_at : (g : ℕ) (tags : List ℕ) (v now : Option V) (rest : List (Note V)) → has g tags ≡ true → unwound g (noted true tags v rest) now ≡ v
  unwound_at g [] v now rest here = absurd (true≢false (sym here))
  unwound_at g (t ∷ tags) v now rest here = ap (λ b. cond b v (unwound g rest now)) here

  cut_past : (g : ℕ) (b : Bool) (tags : List ℕ) (v : Option V) (rest : List (Note V)) → has g tags ≡ false → cut g (noted b tags v rest) ≡ noted b tags v (cut g rest)
  cut_past g false tags v rest none = refl
  cut_past g true [] v rest none = refl
  cut_past g true (t ∷ tags) v rest none = ap (λ b. cond b [] (record { tags = t ∷ tags; before = v } ∷ cut g rest)) none

  cut_at : (g : ℕ) (tags : List ℕ) (v : Option V) (rest : List (Note V)) → has g tags ≡ true → cut g (noted true tags v rest) ≡ []
  cut_at g [] v rest here = absurd (true≢false (sym here))
  cut_at g (t ∷ tags) v rest here = ap (λ b. cond b [] (record { tags = t ∷ tags; before = v } ∷ cut g rest)) here

module _ {E V W : Type 0} {R : E → E → Ordering} (total : IsTotalOrder R) (guesses : List ℕ) (g : ℕ) (is_open : has g guesses ≡ true) where
  -- the value before the first note that carries g is that of the struck run
  pub unwound_is : (dirty : ℕ → List E) (ts : List (MarkedEffect E V W)) (e : E) (v : Option V) → is_in R (dirty g) e ≡ false
      → unwound g (notes_of R guesses dirty ts e v) (value_after R ts e v) ≡ value_after R (keep (hits R g (dirty g) ts) ts) e v
  unwound_is dirty [] e v clean = refl
  unwound_is dirty (f ∷ ts) e v clean =
      elim (hit R g (dirty g) f) as (λ b. hit R g (dirty g) f ≡ b
      → ((w : Option V) → is_in R (dirtied b f (dirty g)) e ≡ false
      → unwound g (notes_of R guesses (next_dirty R guesses dirty f) ts e w) (value_after R ts e w) ≡ value_after R (keep (hits R g (dirtied b f (dirty g)) ts) ts) e w)
      → unwound g (noted (is_in R (writes f) e) (rests R guesses dirty f) v (notes_of R guesses (next_dirty R guesses dirty f) ts e (written_value R f.written e v))) (value_after R ts e (written_value R f.written e v))
      ≡ value_after R (keep (b ∷ hits R g (dirtied b f (dirty g)) ts) (f ∷ ts)) e v) [
        | true ↦ λ is more.
            elim (is_in R (writes f) e) as (λ b. is_in R (writes f) e ≡ b
            → unwound g (noted b (rests R guesses dirty f) v (notes_of R guesses (next_dirty R guesses dirty f) ts e (written_value R f.written e v))) (value_after R ts e (written_value R f.written e v))
            ≡ value_after R (keep (hits R g (writes f ++ dirty g) ts) ts) e v) [
              | true ↦ λ here.
                  unwound_at g (rests R guesses dirty f) v _ _ (has_passed (λ h. hit R h (dirty h) f) g guesses is is_open)
                  ∙ sym (frozen total g (writes f ++ dirty g) ts e v (list_any-append (eq_by_cmp R e) (writes f) (dirty g) ∙ or_left _ _ here))
              | false ↦ λ none.
                  let same = written_other R f.written e v none in
                  ap (λ w. unwound g (notes_of R guesses (next_dirty R guesses dirty f) ts e w) (value_after R ts e w)) same
                  ∙ more v (list_any-append (eq_by_cmp R e) (writes f) (dirty g) ∙ or_from _ _ none clean)
            ] refl
        | false ↦ λ is more.
            unwound_past g (is_in R (writes f) e) (rests R guesses dirty f) v _ _ (has_not (λ h. hit R h (dirty h) f) g guesses is)
            ∙ more (written_value R f.written e v) clean
      ] refl (λ w clean. unwound_is (next_dirty R guesses dirty f) ts e w clean)

  -- a surviving step writes no dirty entity, and so makes no note for it
  frozen_notes : (dg : List E) (dk : ℕ → List E) (ts : List (MarkedEffect E V W)) (e : E) (v : Option V) → is_in R dg e ≡ true → notes_of R guesses dk (keep (hits R g dg ts) ts) e v ≡ []
  frozen_notes dg dk [] e v dirt = refl
  frozen_notes dg dk (f ∷ ts) e v dirt =
      elim (hit R g dg f) as (λ b. hit R g dg f ≡ b → notes_of R guesses dk (keep (b ∷ hits R g (dirtied b f dg) ts) (f ∷ ts)) e v ≡ []) [
        | true ↦ λ _. frozen_notes (writes f ++ dg) dk ts e v (list_any-append (eq_by_cmp R e) (writes f) dg ∙ or_right _ _ dirt)
        | false ↦ λ is.
            ap (λ b. noted b (rests R guesses dk f) v (notes_of R guesses (next_dirty R guesses dk f) (keep (hits R g dg ts) ts) e (written_value R f.written e v))) (unwritten total g dg f e is dirt)
            ∙ frozen_notes dg (next_dirty R guesses dk f) ts e (written_value R f.written e v) dirt
      ] refl

  -- the notes of the struck run are those before the first that carries g
  pub cut_is : (dirty dk : ℕ → List E) → ((h : ℕ) → SameOff R (dirty g) (dirty h) (dk h)) → (ts : List (MarkedEffect E V W)) (e : E) (v : Option V) → is_in R (dirty g) e ≡ false
      → notes_of R guesses dk (keep (hits R g (dirty g) ts) ts) e v ≡ cut g (notes_of R guesses dirty ts e v)
  cut_is dirty dk same [] e v clean = refl
  cut_is dirty dk same (f ∷ ts) e v clean =
      elim (hit R g (dirty g) f) as (λ b. hit R g (dirty g) f ≡ b
      → ((dk : ℕ → List E) (w : Option V) → ((h : ℕ) → SameOff R (dirtied b f (dirty g)) (next_dirty R guesses dirty f h) (dk h)) → is_in R (dirtied b f (dirty g)) e ≡ false
      → notes_of R guesses dk (keep (hits R g (dirtied b f (dirty g)) ts) ts) e w ≡ cut g (notes_of R guesses (next_dirty R guesses dirty f) ts e w))
      → notes_of R guesses dk (keep (b ∷ hits R g (dirtied b f (dirty g)) ts) (f ∷ ts)) e v
      ≡ cut g (noted (is_in R (writes f) e) (rests R guesses dirty f) v (notes_of R guesses (next_dirty R guesses dirty f) ts e (written_value R f.written e v)))) [
        | true ↦ λ is more.
            elim (is_in R (writes f) e) as (λ b. is_in R (writes f) e ≡ b
            → notes_of R guesses dk (keep (hits R g (writes f ++ dirty g) ts) ts) e v
            ≡ cut g (noted b (rests R guesses dirty f) v (notes_of R guesses (next_dirty R guesses dirty f) ts e (written_value R f.written e v)))) [
              | true ↦ λ here.
                  frozen_notes (writes f ++ dirty g) dk ts e v (list_any-append (eq_by_cmp R e) (writes f) (dirty g) ∙ or_left _ _ here)
                  ∙ sym (cut_at g (rests R guesses dirty f) v _ (has_passed (λ h. hit R h (dirty h) f) g guesses is is_open))
              | false ↦ λ none.
                  more dk v
                  (λ h x away.
                  let parts = none_of_both (eq_by_cmp R x) (writes f) (dirty g) away in
                  dirtied_other R (hit R h (dirty h) f) f (dirty h) x parts.0 ∙ same h x parts.1)
                  (list_any-append (eq_by_cmp R e) (writes f) (dirty g) ∙ or_from _ _ none clean)
                  ∙ ap (λ w. cut g (notes_of R guesses (next_dirty R guesses dirty f) ts e w)) (sym (written_other R f.written e v none))
            ] refl
        | false ↦ λ is more.
            let alike : (h : ℕ) → hit R h (dk h) f ≡ hit R h (dirty h) f =
            λ h. ap (λ b. is_marked f.mark h || b) (sym (any_same R (dirty g) (dirty h) (dk h) (same h) (touches f) (or_parts _ _ is).1)) in
            let later : notes_of R guesses (next_dirty R guesses dk f) (keep (hits R g (dirty g) ts) ts) e (written_value R f.written e v) ≡ cut g (notes_of R guesses (next_dirty R guesses dirty f) ts e (written_value R f.written e v)) =
            more (next_dirty R guesses dk f) (written_value R f.written e v)
            (λ h x away.
            dirtied_same R (hit R h (dirty h) f) f (dirty h) (dk h) x (same h x away)
            ∙ ap (λ b. is_in R (dirtied b f (dk h)) x) (sym (alike h)))
            clean in
            (λ i. noted (is_in R (writes f) e) (filter (λ h. alike h i) guesses) v (later i))
            ∙ sym (cut_past g (is_in R (writes f) e) (rests R guesses dirty f) v _ (has_not (λ h. hit R h (dirty h) f) g guesses is))
      ] refl (λ dk w same clean. cut_is (next_dirty R guesses dirty f) dk same ts e w clean)
