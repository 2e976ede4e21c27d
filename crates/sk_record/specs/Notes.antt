-- Tags and undo logs.
use Rattle.std.specs.Prelude.{ℕ, Bool, true, false, not, ◌==◌, List, [], ◌∷◌, Option, if◌then◌else◌}
use Rattle.std.specs.List.{filter, list_any}
use Rattle.std.specs.declared.cmp.Ordering.{Ordering}
use Rattle.sk_record.specs.Effects.{MarkedEffect, is_in, hit, dirtied, writes, written_value}

-- what a write is undone by: the guesses that it depends on, and the value before it
pub record Note (V : Type 0) : Type 0 where
  pub tags : List ℕ
  pub before : Option V

-- whether g is among the tags
abbrev pub has : ℕ → List ℕ → Bool
has g tags = list_any (λ t. t == g) tags

-- the tags but for g
abbrev pub without : ℕ → List ℕ → List ℕ
without g tags = filter (λ t. not (t == g)) tags

-- a write makes a note where it depends on some guess
abbrev pub noted : {V : Type 0} → Bool → List ℕ → Option V → List (Note V) → List (Note V)
noted false tags v rest = rest
noted true [] v rest = rest
noted true (t ∷ tags) v rest = record { tags = t ∷ tags; before = v } ∷ rest

module _ {V : Type 0} where
  -- the tags of an entity are those of its last note
  abbrev pub last_tags : List ℕ → List (Note V) → List ℕ
  last_tags tags [] = tags
  last_tags tags (n ∷ ns) = last_tags n.tags ns

  -- the notes up to the first that carries g
  abbrev pub cut : ℕ → List (Note V) → List (Note V)
  cut g [] = []
  cut g (n ∷ ns) = if has g n.tags then [] else n ∷ cut g ns

  -- the notes from the first that carries g on
  abbrev pub carried : ℕ → List (Note V) → List (Note V)
  carried g [] = []
  carried g (n ∷ ns) = if has g n.tags then n ∷ ns else carried g ns

  -- the value before the first note that carries g, or the value now
  abbrev pub unwound : ℕ → List (Note V) → Option V → Option V
  unwound g [] now = now
  unwound g (n ∷ ns) now = if has g n.tags then n.before else unwound g ns now

  -- g out of every note, and each note that then has no tags
  abbrev pub committed : ℕ → List (Note V) → List (Note V)
  committed g [] = []
  committed g (n ∷ ns) = noted true (without g n.tags) n.before (committed g ns)

module _ {E V W : Type 0} (R : E → E → Ordering) (guesses : List ℕ) where
  -- the open guesses that a step depends on, where dirty has for each guess the entities that it has dirtied
  abbrev pub rests : (ℕ → List E) → MarkedEffect E V W → List ℕ
  rests dirty f = filter (λ g. hit R g (dirty g) f) guesses

  -- what each guess has dirtied after one more step
  abbrev pub next_dirty : (ℕ → List E) → MarkedEffect E V W → ℕ → List E
  next_dirty dirty f g = dirtied (hit R g (dirty g) f) f (dirty g)

  -- the notes of an entity that had the value v
  abbrev pub notes_of : (ℕ → List E) → List (MarkedEffect E V W) → E → Option V → List (Note V)
  notes_of dirty [] e v = []
  notes_of dirty (f ∷ fs) e v =
      noted (is_in R (writes f) e) (rests dirty f) v (notes_of (next_dirty dirty f) fs e (written_value R f.written e v))

  -- the open guesses that each step of a effects depends on
  abbrev pub tags_along : (ℕ → List E) → List (MarkedEffect E V W) → List (List ℕ)
  tags_along dirty [] = []
  tags_along dirty (f ∷ fs) = rests dirty f ∷ tags_along (next_dirty dirty f) fs
