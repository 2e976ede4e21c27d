-- Those of the keys that were taken so far which are there, each once, are written behind what was.
use Rattle.sk_commands.proofs.Names.{◌≡◌, ◌+◌, ◌≤◌, ℕ, List, Option, ◌++◌, map, vec_len, vec_items, vec_capacity, Vec}
use Rattle.sk_commands.proofs.Names.{removals, there, told}
use Rattle.sk_commands.proofs.run.delete.Given as goal

abbrev pub invariant-loop-key : goal.invariant-loop-key
invariant-loop-key g l =
    (done : List (List ℕ)) × (new : List (Vec ℕ × Option (List ℕ)))
    × (map vec_items l.keys.items ++ done ≡ map vec_items l.initial.keys.items)
    × (l.written.items ≡ l.initial.written.items ++ new)
    × (told new ≡ removals (there (g.S.Look.look l.store) done))
    × (vec_len l.written + vec_len l.keys ≤ vec_capacity l.written)

abbrev pub decreases-loop-key : goal.decreases-loop-key
decreases-loop-key g l = vec_len l.keys
