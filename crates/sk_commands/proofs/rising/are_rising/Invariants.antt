-- Each key so far stands behind the one before it.
use Rattle.sk_commands.proofs.Names.{◌≡◌, ℕ, ◌+◌, ◌<◌, List, map, vec_items, get_or, nat_cmp, slice_cmp, Less}
use Rattle.sk_commands.proofs.rising.are_rising.Given as goal

abbrev pub invariant-loop-place : goal.invariant-loop-place
invariant-loop-place l =
    (k : ℕ) (d : List ℕ) → k + 1 < l.place → slice_cmp nat_cmp (get_or (map vec_items l.keys) k d) (get_or (map vec_items l.keys) (k + 1) d) ≡ Less
