-- Nothing was said.
use Rattle.sk_plain.proofs.Cites.{subst, sym, AllClear}
use Rattle.sk_plain.proofs.Clear.{none_said}
use Rattle.sk_plain.proofs.plain.Plain.of.Goals as goal

pub invariant_of-result : goal.invariant_of-result
invariant_of-result c = subst AllClear (sym c.new-texts.ensures) none_said
