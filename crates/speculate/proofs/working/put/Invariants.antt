-- What is gone from the rest was appended.
use Rattle.speculate.proofs.Names.{◌≡◌, ℕ, List, ◌++◌, Appends}
use Rattle.speculate.proofs.working.put.Given as goal

abbrev pub invariant-loop : goal.invariant-loop
invariant-loop g l = (done : List ℕ) × (l.initial.rest ≡ done ++ l.rest) × Appends (g.W.Write.contents l.initial.out) (g.W.Write.contents l.out) done
