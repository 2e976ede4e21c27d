-- The entities so far are those of the writes so far.
use Rattle.sk_guesses.proofs.Names.{◌≡◌, take, keys_of, vec_capacity}
use Rattle.sk_guesses.proofs.open_guesses.written_in.Given as goal

abbrev pub invariant-loop-write : goal.invariant-loop-write
invariant-loop-write g l = (l.entities.items ≡ keys_of (take l.write-index l.written)) × (vec_capacity l.entities ≡ vec_capacity l.fn.list)
