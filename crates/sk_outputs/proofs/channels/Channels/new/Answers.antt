use Rattle.sk_outputs.proofs.Names.{nat_cmp, sym, subst}
use Rattle.std.specs.List.Sorted.{IsStrictlySortedBy}
use Rattle.sk_outputs.proofs.channels.Channels.new.Goals as goal

pub invariant_of-result : goal.invariant_of-result
unfolding IsStrictlySortedBy
invariant_of-result c = subst (IsStrictlySortedBy nat_cmp) (sym c.new.ensures.items) tt
