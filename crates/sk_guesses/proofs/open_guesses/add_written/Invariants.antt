use Rattle.sk_guesses.proofs.Names.{◌≡◌, ◌≤◌, ◌+◌, length, drop, with_entities, keys_of}
use Rattle.sk_guesses.proofs.open_guesses.add_written.Given as goal

abbrev pub invariant-loop-write : goal.invariant-loop-write
invariant-loop-write g l =
    (with_entities g.E.Key.order l.list.entities (keys_of (drop l.write-index l.written)) ≡ with_entities g.E.Key.order l.fn.list.entities (keys_of l.written))
    × (length l.written ≤ l.list.room + l.write-index)
