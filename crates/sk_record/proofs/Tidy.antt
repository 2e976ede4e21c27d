-- What follows of a kernel that stands for its record.
use Rattle.sk_record.proofs.Names.{◌≡◌, ℕ, Bool, true, false, cond, ◌&&◌, List, [], ◌∷◌, ◌++◌, Option, refl, sym, ◌∙◌}
use Rattle.sk_record.proofs.Names.{ap, subst, list_any, list_all, IsTotalOrder, FinMap, get, IsAntisymmetric, Ordering}
use Rattle.sk_record.proofs.Names.{or_parts, or_left, or_from, true≢false, eq-eqb, MarkedEffect, is_in, hit, dirt, keep}
use Rattle.sk_record.proofs.Names.{writes, written_value, System, effects, Note, has, noted, last_tags, carried, rests}
use Rattle.sk_record.proofs.Names.{next_dirty, notes_of, Event, Record, recorded, all_recorded, deps, UndoState}
use Rattle.sk_record.proofs.Names.{tags_at, IsTidy, IsGrowing, Represents, and-false}
use Rattle.sk_record.proofs.Tags.{suffix_is}
use Rattle.sk_record.proofs.Machine.{inv_tags, has_filter}
use Rattle.sk_record.proofs.UndoStates.{inv_of, and_both}

-- each note depends on some guess
abbrev pub AllSome : {V : Type 0} → List (Note V) → Type 0
AllSome [] = Unit {0}
AllSome (n ∷ ns) = (n.tags ≡ [] → ⊥) × AllSome ns

none_at_end : {V : Type 0} (t : List ℕ) (ns : List (Note V)) → AllSome ns → (t ≡ [] → ⊥) → last_tags t ns ≡ [] → ⊥
none_at_end t [] all some none = some none
none_at_end t (n ∷ ns) all some none = none_at_end n.tags ns all.1 all.0 none

empty_log : {V : Type 0} (ns : List (Note V)) → AllSome ns → last_tags [] ns ≡ [] → ns ≡ []
empty_log [] all none = refl
empty_log (n ∷ ns) all none = absurd (none_at_end n.tags ns all.1 all.0 none)

pub noted_some : {V : Type 0} (b : Bool) (tags : List ℕ) (v : Option V) (rest : List (Note V)) → AllSome rest → AllSome (noted b tags v rest)
noted_some false tags v rest all = all
noted_some true [] v rest all = all
noted_some true (t ∷ tags) v rest all = ((λ h. true≢false (sym (or_left _ _ (eq-eqb t t refl)) ∙ ap (has t) h)), all)

no_carrier : {V : Type 0} (g : ℕ) (b : Bool) (tags : List ℕ) (v : Option V) (rest : List (Note V)) → has g tags ≡ false → carried g rest ≡ [] → carried g (noted b tags v rest) ≡ []
no_carrier g false tags v rest none all = all
no_carrier g true [] v rest none all = all
no_carrier g true (t ∷ tags) v rest none all = ap (λ x. cond x (record { tags = t ∷ tags; before = v } ∷ rest) (carried g rest)) none ∙ all

module _ {E V W : Type 0} (R : E → E → Ordering) (guesses : List ℕ) where
  notes_some : (dirty : ℕ → List E) (ts : List (MarkedEffect E V W)) (e : E) (v : Option V) → AllSome (notes_of R guesses dirty ts e v)
  notes_some dirty [] e v = tt
  notes_some dirty (f ∷ fs) e v = noted_some (is_in R (writes f) e) (rests R guesses dirty f) v _ (notes_some (next_dirty R guesses dirty f) fs e (written_value R f.written e v))

  strangers : (g : ℕ) → has g guesses ≡ false → (dirty : ℕ → List E) (ts : List (MarkedEffect E V W)) (e : E) (v : Option V) → carried g (notes_of R guesses dirty ts e v) ≡ []
  strangers g none dirty [] e v = refl
  strangers g none dirty (f ∷ fs) e v =
      no_carrier g (is_in R (writes f) e) (rests R guesses dirty f) v _
      (has_filter (λ g. hit R g (dirty g) f) g guesses ∙ ap (λ b. hit R g (dirty g) f && b) none ∙ and-false (hit R g (dirty g) f))
      (strangers g none (next_dirty R guesses dirty f) fs e (written_value R f.written e v))

module _ {E V W F N : Type 0} (K : System E V W F N) (total : IsTotalOrder K.order) (exact : IsAntisymmetric K.order) (start : FinMap K.order V) where
  pub tags_are : (r : Record N) (a : UndoState E V) → Represents K start r a → (e : E) → tags_at a e ≡ deps K start r e
  tags_are r a s e = inv_tags K total exact start r a (inv_of K total exact start r a s) e

  pub tidy_of : (r : Record N) (a : UndoState E V) → Represents K start r a → IsTidy a
  tidy_of r a s = record {
    clean = λ e none. s.logs e ∙ empty_log _ (notes_some K.order r.undecided (λ g. []) (effects K start r.entries) e (get start e)) (ap (last_tags []) (sym (s.logs e)) ∙ none);
    known = λ e g here.
        ap (has g) s.guesses
        ∙ (and_both _ _ (sym (has_filter (λ g. is_in K.order (dirt K.order g [] (effects K start r.entries)) e) g r.undecided) ∙ ap (has g) (sym (tags_are r a s e)) ∙ here)).1;
  }

  -- each note of a log depends on some guess
  pub rests_of : (r : Record N) (a : UndoState E V) → Represents K start r a → (e : E) → AllSome (a.logs e)
  rests_of r a s e = subst AllSome (sym (s.logs e)) (notes_some K.order r.undecided (λ g. []) (effects K start r.entries) e (get start e))

  pub grows_of : (r : Record N) (a : UndoState E V) → Represents K start r a → (e : E) → IsGrowing (a.logs e)
  grows_of r a s e g =
      ap (λ ns. list_all (λ n. has g n.tags) (carried g ns)) (s.logs e)
      ∙ elim (has g r.undecided) as (λ b. has g r.undecided ≡ b → list_all (λ n. has g n.tags) (carried g (notes_of K.order r.undecided (λ g. []) (effects K start r.entries) e (get start e))) ≡ true) [
        | true ↦ λ here. suffix_is total r.undecided g here (λ g. []) (effects K start r.entries) e (get start e)
        | false ↦ λ none. ap (list_all (λ n. has g n.tags)) (strangers K.order r.undecided g none (λ g. []) (effects K start r.entries) e (get start e))
      ] refl

pub any_keep : {A : Type 0} (p : A → Bool) (bs : List Bool) (xs : List A) → list_any p xs ≡ false → list_any p (keep bs xs) ≡ false
any_keep p [] xs none = none
any_keep p (b ∷ bs) [] none = refl
any_keep p (true ∷ bs) (x ∷ xs) none = any_keep p bs xs (or_parts _ _ none).1
any_keep p (false ∷ bs) (x ∷ xs) none = let parts = or_parts _ _ none in or_from _ _ parts.0 (any_keep p bs xs parts.1)

module _ {E V W F N : Type 0} (K : System E V W F N) (start : FinMap K.order V) where
  pub recorded_more : (r : Record N) (es : List (Event N)) (e : Event N) → all_recorded K start r (es ++ e ∷ []) ≡ recorded K start (all_recorded K start r es) e
  recorded_more r [] e = refl
  recorded_more r (x ∷ es) e = recorded_more (recorded K start r x) es e
