-- A map as its users see it.
use Rattle.std.specs.Prelude.{List}
use Rattle.std.specs.declared.cmp.Ordering.{Ordering}
use Rattle.std.specs.FinMap.{FinMap, from_entries}

-- the finite map that entries make, in an order of their keys
abbrev pub seen : {K V : Type 0} → (R : K → K → Ordering) → List (K × V) → FinMap R V
seen R entries = from_entries {R = R} entries
