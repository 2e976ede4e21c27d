-- The keys so far, with those that are written yet, are all.
use Rattle.sk_commands.proofs.Names.{◌≡◌, drop, map, vec_items, told, known_after}
use Rattle.sk_commands.proofs.work.place_each.Given as goal

abbrev pub invariant-loop-write : goal.invariant-loop-write
invariant-loop-write l = known_after (told (drop l.write-index l.written)) (map vec_items l.all.items) ≡ known_after (told l.written) (map vec_items l.known)
