-- The struck record: what is left of a record when a guess fails.
use Rattle.std.specs.Prelude.{ℕ, Bool, List, []}
use Rattle.std.specs.FinMap.{FinMap}
use Rattle.sk_record.specs.Effects.{keep, hits}
use Rattle.sk_record.specs.Run.{System, effects}

module _ {E V W F N : Type 0} (K : System E V W F N) where
  -- for each position of the record whether it depends on g
  abbrev pub struck : FinMap K.order V → List N → ℕ → List Bool
  struck s ns g = hits K.order g [] (effects K s ns)

  -- the record without the positions that depend on g, the rest in order
  abbrev pub strike : FinMap K.order V → List N → ℕ → List N
  strike s ns g = keep (struck s ns g) ns
