-- The notes before the place are joined.
use Rattle.sk_undo.proofs.Cites.{◌≡◌, ◌≤◌, ◌-◌, None, vec_len, vec_capacity, joined_from}
use Rattle.sk_undo.proofs.log.join_from.Given as goal

abbrev pub invariant-loop-place : goal.invariant-loop-place
invariant-loop-place g l =
    (joined_from g.V.Logged.is_whole None l.place l.notes.items ≡ joined_from g.V.Logged.is_whole None l.fn.first l.fn.notes.items)
    × (vec_capacity l.notes ≡ vec_capacity l.fn.notes) × (vec_len l.notes ≤ vec_len l.fn.notes)

abbrev pub decreases-loop-place : goal.decreases-loop-place
decreases-loop-place g l = vec_len l.notes - l.place
