-- At first nothing was said.
use Rattle.sk_plain.proofs.Cites.{subst, sym, AllClear}
use Rattle.sk_plain.proofs.Clear.{none_said}
use Rattle.sk_plain.proofs.plain.Plain.boot.Goals as goal

pub invariant_of-result : goal.invariant_of-result
invariant_of-result c = subst AllClear (sym c.new.ensures) none_said
