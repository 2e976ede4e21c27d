-- What was added, and what is left, are all.
use Rattle.sk_store.proofs.Names.{◌≡◌}
use Rattle.std.specs.Prelude.{◌++◌, map as each}
use Rattle.sk_store.specs.Present.{shown, shown_alone}
use Rattle.sk_store.proofs.store.add_all.Given as goal

abbrev pub invariant-loop-key : goal.invariant-loop-key
invariant-loop-key l = each shown l.all.items ++ each shown_alone l.key-iterator ≡ each shown l.initial.all.items ++ each shown_alone l.initial.key-iterator
