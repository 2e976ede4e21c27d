-- What the outputs from a place on say.
use Rattle.sk_outputs.proofs.Names.{◌≤◌, ◌+◌, length, drop, AreReady}
use Rattle.sk_outputs.proofs.outputs.find_ready.Given as goal

abbrev pub invariant-loop-place : goal.invariant-loop-place
invariant-loop-place g l = AreReady (drop l.place l.said.items) l.ready.channels × (length l.ready.channels + l.place ≤ length l.said.items) × (length l.said.items ≤ l.ready.places) × (l.fn.ready.places ≤ l.ready.places)
