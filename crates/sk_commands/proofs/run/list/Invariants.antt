-- The values so far, and those of the keys that are left, are those of all.
use Rattle.sk_commands.proofs.Names.{◌≡◌, ◌++◌, drop, map, Some, vec_items, listed}
use Rattle.sk_commands.proofs.run.list.Given as goal

abbrev pub invariant-loop-key : goal.invariant-loop-key
invariant-loop-key g l =
    l.values.items ++ map Some (listed l.prefix (g.S.Look.look l.store) (map vec_items (drop l.key-index l.keys))) ≡ map Some (listed l.prefix (g.S.Look.look l.store) (map vec_items l.keys))
