use Rattle.sk_outputs.proofs.Names.{nat_cmp, sym, subst}
use Rattle.std.specs.List.Sorted.{IsStrictlySortedBy}
use Rattle.sk_outputs.proofs.channels.Channels.clear.Goals as goal

pub invariant_of-self : goal.invariant_of-self
unfolding IsStrictlySortedBy
invariant_of-self c = subst (IsStrictlySortedBy nat_cmp) (sym c.clear.ensures.items) tt
