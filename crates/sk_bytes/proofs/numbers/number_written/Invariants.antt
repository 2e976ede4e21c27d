-- The first keys have numbers.
use Rattle.sk_bytes.proofs.Names.{◌≡◌, map, take, vec_items, number_of, names, AreNames, Gains}
use Rattle.sk_bytes.proofs.numbers.number_written.Given as goal

abbrev pub invariant-loop-write : goal.invariant-loop-write
invariant-loop-write g l =
    Gains l.fn.index l.loose.items l.index
    × AreNames (number_of l.index) (map (λ w. vec_items w.0) (take l.write-index l.written)) (names l.numbered.items)
    × (l.loose.items ≡ names l.numbered.items)
