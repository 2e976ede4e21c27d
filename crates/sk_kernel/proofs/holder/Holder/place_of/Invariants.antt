-- A token of the guess is held where one is among those that are left to look at.
use Rattle.sk_kernel.proofs.Names.{◌≡◌, drop, has, ids}
use Rattle.sk_kernel.proofs.holder.Holder.place_of.Given as goal

abbrev pub invariant-loop-place : goal.invariant-loop-place
invariant-loop-place l = has l.id (ids l.token-items) ≡ has l.id (ids (drop l.place l.token-items))
