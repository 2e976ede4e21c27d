-- The keys of the places so far.
use Rattle.sk_durable.proofs.Names.{◌≡◌, map, vec_items}
use Rattle.sk_durable.proofs.Listed.{listed}
use Rattle.sk_durable.proofs.known.known_keys.Given as goal

abbrev pub invariant-loop-place : goal.invariant-loop-place
invariant-loop-place l = map vec_items l.keys.items ≡ listed l.kernel.keys l.place
