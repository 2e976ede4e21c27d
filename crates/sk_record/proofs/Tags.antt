-- What the notes of an entity say of its tags, and how commits, steps and failures change them.
use Rattle.sk_record.proofs.Names.{◌≡◌, ℕ, Bool, true, false, cond, not, List, [], ◌∷◌, ◌++◌, Option, refl, sym, ◌∙◌}
use Rattle.sk_record.proofs.Names.{ap, subst, ◌==◌, list_any, list_all, filter, Ordering, eq_by_cmp, IsTotalOrder}
use Rattle.sk_record.proofs.Names.{or_from, or_parts, or_left, true≢false, and_from, false_from_ne_true}
use Rattle.sk_record.proofs.Names.{true_from_ne_false, list_any-append, MarkedEffect, is_in, hit, hits, dirt, dirtied}
use Rattle.sk_record.proofs.Names.{writes, written_value, value_after, Note, has, without, noted, last_tags, cut}
use Rattle.sk_record.proofs.Names.{carried, committed, rests, next_dirty, notes_of}
use Rattle.sk_record.proofs.Later.{dirtied_other}
use Rattle.sk_record.proofs.Values.{unwritten}
use Rattle.sk_record.proofs.Chains.{dirtied_more}
use Rattle.sk_record.proofs.Notes.{has_not, has_passed}

module _ {V : Type 0} where
  pub carried_split : (g : ℕ) (ns : List (Note V)) → ns ≡ cut g ns ++ carried g ns
  carried_split g [] = refl
  carried_split g (n ∷ ns) =
      elim (has g n.tags) as (λ b. n ∷ ns ≡ cond b [] (n ∷ cut g ns) ++ cond b (n ∷ ns) (carried g ns)) [
        | true ↦ refl
        | false ↦ ap (λ rest. n ∷ rest) (carried_split g ns)
      ]

  -- no note before the first that carries g does
  pub cut_none : (g : ℕ) (ns : List (Note V)) → list_any (λ n. has g n.tags) (cut g ns) ≡ false
  cut_none g [] = refl
  cut_none g (n ∷ ns) =
      elim (has g n.tags) as (λ b. has g n.tags ≡ b → list_any (λ n. has g n.tags) (cond b [] (n ∷ cut g ns)) ≡ false) [
        | true ↦ λ _. refl
        | false ↦ λ none. or_from _ _ none (cut_none g ns)
      ] refl

  abbrev pub AllCarry : ℕ → List (Note V) → Type 0
  AllCarry g ns = list_all (λ n. has g n.tags) ns ≡ true

  all_noted : (g : ℕ) (b : Bool) (tags : List ℕ) (v : Option V) (rest : List (Note V)) → (b ≡ true → has g tags ≡ true) → AllCarry g rest → AllCarry g (noted b tags v rest)
  all_noted g false tags v rest h all = all
  all_noted g true [] v rest h all = all
  all_noted g true (t ∷ tags) v rest h all = and_from _ _ (h refl) all

  carried_noted : (g : ℕ) (b : Bool) (tags : List ℕ) (v : Option V) (rest : List (Note V)) → (b ≡ true → has g tags ≡ true → AllCarry g rest) → AllCarry g (carried g rest) → AllCarry g (carried g (noted b tags v rest))
  carried_noted g false tags v rest h all = all
  carried_noted g true [] v rest h all = all
  carried_noted g true (t ∷ tags) v rest h all =
      elim (has g (t ∷ tags)) as (λ b. has g (t ∷ tags) ≡ b → AllCarry g (cond b (record { tags = t ∷ tags; before = v } ∷ rest) (carried g rest))) [
        | true ↦ λ is. and_from _ _ is (h refl is)
        | false ↦ λ _. all
      ] refl

  noted_append : (b : Bool) (tags : List ℕ) (v : Option V) (xs ys : List (Note V)) → noted b tags v (xs ++ ys) ≡ noted b tags v xs ++ ys
  noted_append false tags v xs ys = refl
  noted_append true [] v xs ys = refl
  noted_append true (t ∷ tags) v xs ys = refl

  noted_committed : (g : ℕ) (b : Bool) (tags : List ℕ) (v : Option V) (rest : List (Note V)) → noted b (without g tags) v (committed g rest) ≡ committed g (noted b tags v rest)
  noted_committed g false tags v rest = refl
  noted_committed g true [] v rest = refl
  noted_committed g true (t ∷ tags) v rest = refl

  last_noted : (start tags : List ℕ) (b : Bool) (v : Option V) (rest : List (Note V)) → (b ≡ false → start ≡ tags) → (tags ≡ [] → start ≡ []) → last_tags start (noted b tags v rest) ≡ last_tags tags rest
  last_noted start tags false v rest same none = ap (λ s. last_tags s rest) (same refl)
  last_noted start [] true v rest same none = ap (λ s. last_tags s rest) (none refl)
  last_noted start (t ∷ tags) true v rest same none = refl

pub filter_swap : (p q : ℕ → Bool) (xs : List ℕ) → filter p (filter q xs) ≡ filter q (filter p xs)
filter_swap p q [] = refl
filter_swap p q (x ∷ xs) =
    elim (p x) as (λ a. p x ≡ a → filter p (cond (q x) (x ∷ filter q xs) (filter q xs)) ≡ filter q (cond a (x ∷ filter p xs) (filter p xs))) [
      | true ↦ λ px. elim (q x) as (λ b. filter p (cond b (x ∷ filter q xs) (filter q xs)) ≡ cond b (x ∷ filter q (filter p xs)) (filter q (filter p xs))) [
        | true ↦ ap (λ a. cond a (x ∷ filter p (filter q xs)) (filter p (filter q xs))) px ∙ ap (λ rest. x ∷ rest) (filter_swap p q xs)
        | false ↦ filter_swap p q xs
      ]
      | false ↦ λ px. elim (q x) as (λ b. filter p (cond b (x ∷ filter q xs) (filter q xs)) ≡ filter q (filter p xs)) [
        | true ↦ ap (λ a. cond a (x ∷ filter p (filter q xs)) (filter p (filter q xs))) px ∙ filter_swap p q xs
        | false ↦ filter_swap p q xs
      ]
    ] refl

-- a filter within another
pub filter_within : (p q : ℕ → Bool) → ((x : ℕ) → q x ≡ false → p x ≡ false) → (xs : List ℕ) → filter p (filter q xs) ≡ filter p xs
filter_within p q h [] = refl
filter_within p q h (x ∷ xs) =
    elim (q x) as (λ b. q x ≡ b → filter p (cond b (x ∷ filter q xs) (filter q xs)) ≡ cond (p x) (x ∷ filter p xs) (filter p xs)) [
      | true ↦ λ _. ap (λ rest. cond (p x) (x ∷ rest) rest) (filter_within p q h xs)
      | false ↦ λ is. filter_within p q h xs ∙ ap (λ b. cond b (x ∷ filter p xs) (filter p xs)) (sym (h x is))
    ] refl

filter_none : (p q : ℕ → Bool) → ((x : ℕ) → p x ≡ true → q x ≡ true) → (xs : List ℕ) → filter q xs ≡ [] → filter p xs ≡ []
filter_none p q h [] none = refl
filter_none p q h (x ∷ xs) none =
    elim (p x) as (λ b. p x ≡ b → cond b (x ∷ filter p xs) (filter p xs) ≡ []) [
      | true ↦ λ is.
          let P : Bool → Type 0 = λ b. cond b (x ∷ filter q xs) (filter q xs) ≡ [] in
          let no_list : x ∷ filter q xs ≡ [] = subst P (h x is) none in cc
      | false ↦ λ is.
          elim (q x) as (λ b. cond b (x ∷ filter q xs) (filter q xs) ≡ [] → filter p xs ≡ []) [
            | true ↦ λ no_list. cc
            | false ↦ λ rest. filter_none p q h xs rest
          ] none
    ] refl

module _ {E V W : Type 0} {R : E → E → Ordering} (total : IsTotalOrder R) where
  -- an entity that a step writes: dirty before means that the step depends on the guess
  hit_if : (g : ℕ) (dg : List E) (f : MarkedEffect E V W) (e : E) → is_in R (writes f) e ≡ true → is_in R dg e ≡ true → hit R g dg f ≡ true
  hit_if g dg f e here dirt = true_from_ne_false _ (λ no_hit. true≢false (sym here ∙ unwritten total g dg f e no_hit dirt))

  -- dirty after means the same
  dirty_is_hit : (g : ℕ) (dg : List E) (f : MarkedEffect E V W) (e : E) → is_in R (writes f) e ≡ true → (b : Bool) → hit R g dg f ≡ b → is_in R (dirtied b f dg) e ≡ b
  dirty_is_hit g dg f e here true is = list_any-append (eq_by_cmp R e) (writes f) dg ∙ or_left _ _ here
  dirty_is_hit g dg f e here false is = false_from_ne_true _ (λ dirt. true≢false (sym (hit_if g dg f e here dirt) ∙ is))

  module _ (guesses : List ℕ) where
    -- the tags that the last note has are the guesses that have dirtied the entity
    pub tags_are : (dirty : ℕ → List E) (ts : List (MarkedEffect E V W)) (e : E) (v : Option V)
        → last_tags (filter (λ g. is_in R (dirty g) e) guesses) (notes_of R guesses dirty ts e v) ≡ filter (λ g. is_in R (dirt R g (dirty g) ts) e) guesses
    tags_are dirty [] e v = refl
    tags_are dirty (f ∷ ts) e v =
        elim (is_in R (writes f) e) as (λ b. is_in R (writes f) e ≡ b
        → last_tags (filter (λ g. is_in R (dirty g) e) guesses) (noted b (rests R guesses dirty f) v (notes_of R guesses (next_dirty R guesses dirty f) ts e (written_value R f.written e v)))
        ≡ last_tags (filter (λ g. is_in R (next_dirty R guesses dirty f g) e) guesses) (notes_of R guesses (next_dirty R guesses dirty f) ts e (written_value R f.written e v))) [
          | true ↦ λ here.
              last_noted (filter (λ g. is_in R (dirty g) e) guesses) (rests R guesses dirty f) true v _ (λ no_eq. absurd (true≢false no_eq))
              (filter_none (λ g. is_in R (dirty g) e) (λ g. hit R g (dirty g) f) (λ g dirt. hit_if g (dirty g) f e here dirt) guesses)
              ∙ (λ i. last_tags (filter (λ g. sym (dirty_is_hit g (dirty g) f e here (hit R g (dirty g) f) refl) i) guesses) (notes_of R guesses (next_dirty R guesses dirty f) ts e (written_value R f.written e v)))
          | false ↦ λ none.
              λ i. last_tags (filter (λ g. sym (dirtied_other R (hit R g (dirty g) f) f (dirty g) e none) i) guesses) (notes_of R guesses (next_dirty R guesses dirty f) ts e (written_value R f.written e v))
        ] refl
        ∙ tags_are (next_dirty R guesses dirty f) ts e (written_value R f.written e v)

    -- the notes of an entity that a guess has dirtied all carry it
    all_carry : (g : ℕ) → has g guesses ≡ true → (dirty : ℕ → List E) (ts : List (MarkedEffect E V W)) (e : E) (v : Option V) → is_in R (dirty g) e ≡ true → AllCarry g (notes_of R guesses dirty ts e v)
    all_carry g is_open dirty [] e v dirt = refl
    all_carry g is_open dirty (f ∷ ts) e v dirt =
        all_noted g (is_in R (writes f) e) (rests R guesses dirty f) v _
        (λ here. has_passed (λ h. hit R h (dirty h) f) g guesses (hit_if g (dirty g) f e here dirt) is_open)
        (all_carry g is_open (next_dirty R guesses dirty f) ts e _ (dirtied_more total (hit R g (dirty g) f) f (dirty g) e dirt))

    -- the notes that carry g are a suffix
    pub suffix_is : (g : ℕ) → has g guesses ≡ true → (dirty : ℕ → List E) (ts : List (MarkedEffect E V W)) (e : E) (v : Option V) → AllCarry g (carried g (notes_of R guesses dirty ts e v))
    suffix_is g is_open dirty [] e v = refl
    suffix_is g is_open dirty (f ∷ ts) e v =
        carried_noted g (is_in R (writes f) e) (rests R guesses dirty f) v _
        (λ here carries.
        let is : hit R g (dirty g) f ≡ true = true_from_ne_false _ (λ no_hit. true≢false (sym carries ∙ has_not (λ h. hit R h (dirty h) f) g guesses no_hit)) in
        all_carry g is_open (next_dirty R guesses dirty f) ts e _ (dirty_is_hit g (dirty g) f e here (hit R g (dirty g) f) refl ∙ is))
        (suffix_is g is_open (next_dirty R guesses dirty f) ts e _)

    -- one more step
    pub notes_more : (dirty : ℕ → List E) (ts : List (MarkedEffect E V W)) (f : MarkedEffect E V W) (e : E) (v : Option V)
        → notes_of R guesses dirty (ts ++ f ∷ []) e v ≡ notes_of R guesses dirty ts e v ++ noted (is_in R (writes f) e) (rests R guesses (λ g. dirt R g (dirty g) ts) f) (value_after R ts e v) []
    notes_more dirty [] f e v = refl
    notes_more dirty (x ∷ ts) f e v =
        ap (noted (is_in R (writes x) e) (rests R guesses dirty x) v) (notes_more (next_dirty R guesses dirty x) ts f e (written_value R x.written e v))
        ∙ noted_append (is_in R (writes x) e) (rests R guesses dirty x) v _ _

    -- a commit
    pub commit_is : (g : ℕ) (dirty : ℕ → List E) (ts : List (MarkedEffect E V W)) (e : E) (v : Option V) → notes_of R (without g guesses) dirty ts e v ≡ committed g (notes_of R guesses dirty ts e v)
    commit_is g dirty [] e v = refl
    commit_is g dirty (f ∷ ts) e v =
        (λ i. noted (is_in R (writes f) e) (filter_swap (λ h. hit R h (dirty h) f) (λ h. not (h == g)) guesses i) v (commit_is g (next_dirty R guesses dirty f) ts e (written_value R f.written e v) i))
        ∙ noted_committed g (is_in R (writes f) e) (rests R guesses dirty f) v _

    -- guesses on which nothing depends may be left out
    pub fewer_guesses : (q : ℕ → Bool) (dirty : ℕ → List E) (ts : List (MarkedEffect E V W)) (e : E) (v : Option V)
        → ((h : ℕ) → q h ≡ false → list_any (λ b. b) (hits R h (dirty h) ts) ≡ false) → notes_of R (filter q guesses) dirty ts e v ≡ notes_of R guesses dirty ts e v
    fewer_guesses q dirty [] e v none = refl
    fewer_guesses q dirty (f ∷ ts) e v none =
        λ i. noted (is_in R (writes f) e)
        (filter_within (λ h. hit R h (dirty h) f) q (λ h no_q. (or_parts _ _ (none h no_q)).0) guesses i) v
        (fewer_guesses q (next_dirty R guesses dirty f) ts e (written_value R f.written e v) (λ h no_q. (or_parts _ _ (none h no_q)).1) i)
