-- Some key that is set is reserved just where one of those that are left is.
use Rattle.sk_served.proofs.Names.{◌≡◌, length, map, vec_items, list_any, pairs_of, is_reserved}
use Rattle.sk_served.proofs.reserved.set_reserved.Given as goal

abbrev pub invariant-loop-key : goal.invariant-loop-key
invariant-loop-key l =
    list_any is_reserved (map (λ w. w.0) (pairs_of (map vec_items l.left))) ≡ list_any is_reserved (map (λ w. w.0) (pairs_of (map vec_items l.initial.left)))

abbrev pub decreases-loop-key : goal.decreases-loop-key
decreases-loop-key l = length l.left
