-- Changes made in turn.
use Rattle.std.specs.Prelude.{Bool, true, ◌&&◌, List, [], ◌∷◌}
use Rattle.sk_changes.specs.declared.change.Change.{Change}

module _ {V : Type 0} (fits : V → Change → Bool) (applied : V → Change → V) where
  -- whether each change fits what those before it leave
  abbrev pub all_fit : V → List Change → Bool
  all_fit v [] = true
  all_fit v (c ∷ cs) = fits v c && all_fit (applied v c) cs
