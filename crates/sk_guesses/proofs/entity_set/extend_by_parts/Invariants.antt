-- What is there, and what is left, are all; what is left gets shorter.
use Rattle.sk_guesses.proofs.Names.{◌≡◌, ◌≤◌, ◌+◌, ◌++◌, length, vec_capacity}
use Rattle.sk_guesses.proofs.entity_set.extend_by_parts.Given as goal

abbrev pub invariant-loop-left : goal.invariant-loop-left
invariant-loop-left g l = (l.list.items ++ l.left ≡ l.fn.list.items ++ l.entities) × (length l.list.items + length l.left ≤ vec_capacity l.list) × (vec_capacity l.fn.list ≤ vec_capacity l.list)

abbrev pub decreases-loop-left : goal.decreases-loop-left
decreases-loop-left g l = length l.left
