-- The plain kernel: runs of entries over a finite map from entities to values.
use Rattle.std.specs.Prelude.{ℕ, List, [], ◌∷◌, Option, Some, None, Result, Ok, Err, IsOk}
use Rattle.std.specs.declared.cmp.Ordering.{Ordering}
use Rattle.std.specs.FinMap.{FinMap, get, insert, remove}
use Rattle.sk_record.specs.Step.{Step, Effect, perform}
use Rattle.sk_record.specs.Effects.{MarkedEffect}

-- the map after one write, which sets what an entity has, or makes it absent
abbrev pub put : {E V : Type 0} {R : E → E → Ordering} → FinMap R V → E → Option V → FinMap R V
put s e (Some v) = insert s e v
put s e None = remove s e

-- the map after these writes
abbrev pub put_all : {E V : Type 0} {R : E → E → Ordering} → List (E × Option V) → FinMap R V → FinMap R V
put_all [] s = s
put_all (w ∷ ws) s = put_all ws (put s w.0 w.1)

-- a kernel: its entities' order, what an entry's step is, the guess that it is marked with, and the terminal that a text is said to
pub record System (E V W F N : Type 0) : Type 0 where
  pub order : E → E → Ordering
  pub act : N → Step E V W F
  pub mark : N → Option ℕ
  pub goes_to : W → ℕ

module _ {E V W F N : Type 0} (K : System E V W F N) where
  -- what the step of an entry does in a state
  abbrev pub outcome : FinMap K.order V → N → Result (Effect E V W) F
  outcome s n = perform (get s) (K.act n)

  -- a refused step changes nothing
  abbrev pub after : Result (Effect E V W) F → FinMap K.order V → FinMap K.order V
  after (Ok f) s = put_all f.written s
  after (Err why) s = s

  -- the state after the steps of these entries in their order
  abbrev pub run : FinMap K.order V → List N → FinMap K.order V
  run s [] = s
  run s (n ∷ ns) = run (after (outcome s n) s) ns

  -- no entry is refused
  abbrev pub IsLegal : FinMap K.order V → List N → Type 0
  IsLegal s [] = Unit {0}
  IsLegal s (n ∷ ns) = IsOk (outcome s n) × IsLegal (after (outcome s n) s) ns

  -- what the step at an entry left behind
  abbrev pub marked_effect : Option ℕ → Result (Effect E V W) F → MarkedEffect E V W
  marked_effect g (Ok f) = record { mark = g; read = f.read; written = f.written; said = f.said }
  marked_effect g (Err why) = record { mark = g; read = []; written = []; said = None }

  -- what each step of a run left behind, in order
  abbrev pub effects : FinMap K.order V → List N → List (MarkedEffect E V W)
  effects s [] = []
  effects s (n ∷ ns) = marked_effect (K.mark n) (outcome s n) ∷ effects (after (outcome s n) s) ns
