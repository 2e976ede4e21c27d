-- Some key is reserved just where one of those that are left is.
use Rattle.sk_served.proofs.Names.{◌≡◌, drop, map, vec_items, list_any, is_reserved}
use Rattle.sk_served.proofs.reserved.are_reserved.Given as goal

abbrev pub invariant-loop-key : goal.invariant-loop-key
invariant-loop-key l = list_any is_reserved (map vec_items (drop l.key-index l.keys)) ≡ list_any is_reserved (map vec_items l.keys)
