-- What stands there, with the writes that are left, is all.
use Rattle.sk_commands.proofs.Names.{◌≡◌, ◌++◌, into_iter_items, told}
use Rattle.sk_commands.proofs.work.note_all.Given as goal

abbrev pub invariant-loop-write : goal.invariant-loop-write
invariant-loop-write l = told l.so_far ++ told (into_iter_items l.write-iterator) ≡ told l.fn.so_far ++ told l.fn.own.items
