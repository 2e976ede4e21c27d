-- What puts a write back, and what a write makes of what is there.
use Rattle.std.specs.Prelude.{Option, Some, None}
use Rattle.sk_inversion.specs.declared.before.Before.{Before}
use Rattle.sk_inversion.specs.declared.before.Before.TheVariants.{Was, Changed}
use Rattle.sk_inversion.specs.declared.write.Write.{Write}
use Rattle.sk_inversion.specs.declared.write.Write.TheVariants.{Set, Change}

module _ {V U : Type 0} (undone : U → V → V) where
  -- what was there before a write, from what is there after it
  abbrev pub value_before : Before V U → Option V → Option V
  value_before (Was value) now = value
  value_before (Changed undo) None = None
  value_before (Changed undo) (Some v) = Some (undone undo v)

module _ {V U : Type 0} (fits : U → V → Type 0) where
  -- the undo of a change is asked of a value that it can be undone at
  abbrev pub FitsBefore : Before V U → Option V → Type 0
  FitsBefore (Was value) now = Unit {0}
  FitsBefore (Changed undo) None = ⊥
  FitsBefore (Changed undo) (Some v) = fits undo v

  -- the earlier write can be put back, where the later one gives a value back whatever is there
  abbrev pub CanJoin : Before V U → Before V U → Type 0
  CanJoin (Was value) earlier = FitsBefore earlier value
  CanJoin (Changed undo) earlier = Unit {0}

-- what is there after a write: a change of what is absent leaves it absent
module _ {V C : Type 0} (changed : C → V → V) where
  abbrev pub written_by : Write V C → Option V → Option V
  written_by (Set value) now = value
  written_by (Change c) None = None
  written_by (Change c) (Some v) = Some (changed c v)
