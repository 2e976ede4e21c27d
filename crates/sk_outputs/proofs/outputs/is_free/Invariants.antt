use Rattle.sk_outputs.proofs.Names.{◌≡◌, drop, is_ready}
use Rattle.sk_outputs.proofs.outputs.is_free.Given as goal

abbrev pub invariant-loop-place : goal.invariant-loop-place
invariant-loop-place g l = is_ready (drop l.place l.said.items) l.to ≡ is_ready (drop l.from l.said.items) l.to
