-- A place with this string is among those that are left.
use Rattle.sk_index.proofs.Names.{◌≡◌, true, Some, list_any, is_at, string_of, place_cmp}
use Rattle.sk_index.proofs.index.Index.search.Given as goal

abbrev pub invariant-loop-place : goal.invariant-loop-place
invariant-loop-place l =
    (goal.iterator-loop-place).can_next l.place-iterator ×
    (goal.iterator-loop-place).is_finite l.place-iterator ×
    ((n : _) → string_of l.self n ≡ Some l.bytes → list_any (is_at (place_cmp (l.hash, n))) l.place-iterator ≡ true)
