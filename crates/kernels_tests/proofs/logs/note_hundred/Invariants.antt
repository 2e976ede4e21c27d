-- The newest run depends on guess 1.
use Rattle.kernels_tests.proofs.Names.{◌≡◌, [], ◌∷◌, last_tags, runs_of}
use Rattle.kernels_tests.proofs.logs.note_hundred.Given as goal

abbrev pub invariant-loop-at : goal.invariant-loop-at
invariant-loop-at l = last_tags [] (runs_of l.log.log.notes.items) ≡ 1 ∷ []
