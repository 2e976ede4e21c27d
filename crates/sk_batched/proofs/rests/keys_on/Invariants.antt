-- The keys so far stand for the guesses so far.
use Rattle.sk_batched.proofs.Names.{map, vec_items}
use Rattle.sk_batched.specs.Barred.{StandFor}
use Rattle.sk_batched.proofs.Standing.{ids}
use Rattle.sk_batched.proofs.rests.keys_on.Given as goal

abbrev pub invariant-loop-token : goal.invariant-loop-token
invariant-loop-token g l = StandFor l.kernel.parts (ids l.tokens l.token-index) (map vec_items l.keys.items)
