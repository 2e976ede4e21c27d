-- Nothing rises.
use Rattle.sk_guesses.proofs.Names.{sym, subst}
use Rattle.std.specs.List.Sorted.{IsStrictlySortedBy}
use Rattle.sk_guesses.proofs.entity_set.EntitySet.clear.Goals as goal

pub invariant_of-self : goal.invariant_of-self
unfolding IsStrictlySortedBy
invariant_of-self g c = subst (IsStrictlySortedBy g.E.Key.order) (sym c.clear.ensures.items) tt
