-- Those of the keys that were taken so far which are there, each once, are to be made absent.
use Rattle.sk_commands.proofs.Names.{◌≡◌, List, ℕ, ◌++◌, map, vec_len, vec_items, removals, there, told}
use Rattle.sk_commands.proofs.run.gone_of.Given as goal

abbrev pub invariant-loop-key : goal.invariant-loop-key
invariant-loop-key g l =
    (done : List (List ℕ)) × (map vec_items l.keys.items ++ done ≡ map vec_items l.initial.keys.items)
    × (told l.gone ≡ removals (there (g.S.Look.look l.store) done))

abbrev pub decreases-loop-key : goal.decreases-loop-key
decreases-loop-key g l = vec_len l.keys
