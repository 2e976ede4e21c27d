-- The keys so far that are there, and those of the keys that are left, are those of all.
use Rattle.sk_commands.proofs.Names.{◌≡◌, ◌++◌, drop, map, vec_items, present, removals, told}
use Rattle.sk_commands.proofs.run.flush.Given as goal

abbrev pub invariant-loop-key : goal.invariant-loop-key
invariant-loop-key g l =
    told l.gone.items ++ removals (present (g.S.Look.look l.store) (map vec_items (drop l.key-index l.keys))) ≡ removals (present (g.S.Look.look l.store) (map vec_items l.keys))
