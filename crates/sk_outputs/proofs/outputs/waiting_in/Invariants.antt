-- What is counted, with what is left to count.
use Rattle.sk_outputs.proofs.Names.{◌≡◌, ◌≤◌, drop, said_at, waiting_of}
use Rattle.sk_outputs.proofs.Waiting.{left_of}
use Rattle.sk_outputs.proofs.outputs.waiting_in.Given as goal

abbrev pub invariant-loop-place : goal.invariant-loop-place
invariant-loop-place g l = (left_of l.held (said_at (drop l.place l.said.items) l.to) ≡ waiting_of (said_at l.said.items l.to)) × (l.held ≤ l.place)
