-- What depends on what, in the effects that a run leaves.
use Rattle.std.specs.Prelude.{◌≡◌, ℕ, zero, suc, ◌<◌, Bool, true, false, ◌||◌, ◌==◌, List, [], ◌∷◌, ◌++◌, map, Option, Some, None, slice_get, if◌then◌else◌}
use Rattle.std.specs.List.{list_any, Contains}
use Rattle.std.specs.declared.cmp.Ordering.{Ordering}
use Rattle.std.specs.Ordering.{eq_by_cmp}

-- what one step left behind: the guess that it is marked with, what it read with the answers, what it wrote, what it said
pub record MarkedEffect (E V W : Type 0) : Type 0 where
  pub mark : Option ℕ
  pub read : List (E × Option V)
  pub written : List (E × Option V)
  pub said : Option W

module _ {E V W : Type 0} where
  -- what is written
  abbrev pub writes : MarkedEffect E V W → List E
  writes f = map (λ w. w.0) f.written

  -- what is read or written
  abbrev pub touches : MarkedEffect E V W → List E
  touches f = map (λ r. r.0) f.read ++ writes f

  -- the position j feeds the position i: an entity written at j is read or written at i
  pub record Feeds (ts : List (MarkedEffect E V W)) (j i : ℕ) : Type 0 where
    pub earlier : j < i
    pub from : MarkedEffect E V W
    pub to : MarkedEffect E V W
    pub at_j : slice_get ts j ≡ Some from
    pub at_i : slice_get ts i ≡ Some to
    pub entity : E
    pub is_written : Contains (writes from) entity
    pub is_touched : Contains (touches to) entity

  -- the position i is marked g
  pub record IsMarked (ts : List (MarkedEffect E V W)) (g i : ℕ) : Type 0 where
    pub marked_effect : MarkedEffect E V W
    pub at_i : slice_get ts i ≡ Some marked_effect
    pub mark : marked_effect.mark ≡ Some g

  -- the position marked g, and each that a chain of feeds leads to from it
  pub data Dep (ts : List (MarkedEffect E V W)) (g : ℕ) : ℕ → Type 0 where
    itself : {i : ℕ} → IsMarked ts g i → Dep ts g i
    fed : {i : ℕ} (j : ℕ) → Dep ts g j → Feeds ts j i → Dep ts g i

-- the dirty entities after a step that depends on the guess, or does not
abbrev pub dirtied : {E V W : Type 0} → Bool → MarkedEffect E V W → List E → List E
dirtied true f dirty = writes f ++ dirty
dirtied false f dirty = dirty

-- the parts whose flags are false: those with a true flag are struck out, and the rest are counted anew
abbrev pub keep : {A : Type 0} → List Bool → List A → List A
keep [] xs = xs
keep (b ∷ bs) [] = []
keep (true ∷ bs) (x ∷ xs) = keep bs xs
keep (false ∷ bs) (x ∷ xs) = x ∷ keep bs xs

-- where the part at k stood before the flagged ones were struck out
abbrev pub place : List Bool → ℕ → ℕ
place [] k = k
place (true ∷ bs) k = suc (place bs k)
place (false ∷ bs) zero = zero
place (false ∷ bs) (suc k) = suc (place bs k)

-- whether a mark is this guess
abbrev pub is_marked : Option ℕ → ℕ → Bool
is_marked None g = false
is_marked (Some h) g = h == g

module _ {E : Type 0} (R : E → E → Ordering) where
  -- whether the entity is in the list
  abbrev pub is_in : List E → E → Bool
  is_in es e = list_any (eq_by_cmp R e) es

  module _ {V W : Type 0} (g : ℕ) where
    -- whether a step depends on g, where the dirty entities are those that were written by one that does
    abbrev pub hit : List E → MarkedEffect E V W → Bool
    hit dirty f = is_marked f.mark g || list_any (is_in dirty) (touches f)

    -- for each position whether it depends on g
    abbrev pub hits : List E → List (MarkedEffect E V W) → List Bool
    hits dirty [] = []
    hits dirty (f ∷ fs) = hit dirty f ∷ hits (dirtied (hit dirty f) f dirty) fs

    -- the entities that some position that depends on g writes
    abbrev pub dirt : List E → List (MarkedEffect E V W) → List E
    dirt dirty [] = dirty
    dirt dirty (f ∷ fs) = dirt (dirtied (hit dirty f) f dirty) fs

module _ {E V : Type 0} (R : E → E → Ordering) where
  -- the entity's value after these writes
  abbrev pub written_value : List (E × Option V) → E → Option V → Option V
  written_value [] e v = v
  written_value (w ∷ ws) e v = written_value ws e (if eq_by_cmp R e w.0 then w.1 else v)

  module _ {W : Type 0} where
    -- and after these steps
    abbrev pub value_after : List (MarkedEffect E V W) → E → Option V → Option V
    value_after [] e v = v
    value_after (f ∷ fs) e v = value_after fs e (written_value f.written e v)
