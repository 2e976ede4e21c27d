-- What stands behind the first names is exchanged.
use Rattle.sk_bytes.proofs.Names.{◌≡◌, vec_capacity}
use Rattle.sk_bytes.proofs.Moves.{swapped}
use Rattle.sk_bytes.proofs.numbers.exchange.Given as goal

abbrev pub invariant-loop-place : goal.invariant-loop-place
invariant-loop-place g l =
    (l.left.items ≡ swapped l.place l.fn.left.items l.fn.right.items)
    × (l.right.items ≡ swapped l.place l.fn.right.items l.fn.left.items)
    × (vec_capacity l.left ≡ vec_capacity l.fn.left)
    × (vec_capacity l.right ≡ vec_capacity l.fn.right)
