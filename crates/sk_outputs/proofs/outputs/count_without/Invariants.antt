-- What was counted so far, with what is left.
use Rattle.sk_outputs.proofs.Names.{◌≡◌, ◌+◌, ℕ, get_or, length, drop, not_dropped, said_at}
use Rattle.sk_outputs.proofs.outputs.count_without.Given as goal

abbrev pub invariant-loop-place : goal.invariant-loop-place
invariant-loop-place g l = (t : ℕ) → get_or l.counts.items t 0 + length (said_at (not_dropped l.id (drop l.place l.said.items)) t) ≡ length (said_at (not_dropped l.id l.said.items) t) + length (said_at (drop l.place l.said.items) t)
