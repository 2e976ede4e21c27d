use Rattle.sk_commands.proofs.Names.{◌≡◌, drop, map, bytes_eq, vec_items, list_any}
use Rattle.sk_commands.proofs.run.is_written.Given as goal

abbrev pub invariant-loop-write : goal.invariant-loop-write
invariant-loop-write l = list_any (bytes_eq l.key) (map (λ w. vec_items w.0) (drop l.write-index l.written)) ≡ list_any (bytes_eq l.key) (map (λ w. vec_items w.0) l.written)
