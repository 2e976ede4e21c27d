use Rattle.sk_terminal.proofs.Names.{sym, subst, IsStrictlySortedBy, nat_cmp, rising_one}
use Rattle.sk_terminal.proofs.number_set.NumberSet.of.Goals as goal

pub invariant_of-result : goal.invariant_of-result
invariant_of-result c = subst (IsStrictlySortedBy nat_cmp) (sym c.in_ok-numbers.ensures.items) (rising_one c.args.number)
