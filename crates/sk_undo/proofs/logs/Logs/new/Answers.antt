-- No name is there, and none is counted.
use Rattle.sk_undo.proofs.Cites.{subst, sym, IsCounted}
use Rattle.sk_undo.proofs.NameCounts.{none_counted}
use Rattle.std.specs.FinMap as map
use Rattle.sk_undo.proofs.logs.Logs.new.Goals as goal

pub invariant_of-result : goal.invariant_of-result
invariant_of-result c = subst (λ m. IsCounted m c.new-2.result) (sym c.new.ensures) (subst (IsCounted map.empty) (sym c.new-2.ensures) none_counted)
