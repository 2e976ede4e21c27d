-- All but the keys that are left are in the lists of their guesses alone.
use Rattle.sk_speculator.proofs.Names.{◌≡◌, drop, AllAlmostExact, tags_by, keys_of, opens_of, log_at}
use Rattle.sk_speculator.proofs.lists.relieve_written.Given as goal

abbrev pub invariant-loop-write : goal.invariant-loop-write
invariant-loop-write g l =
    let R = g.K.Key.order in
    (l.guesses.view ≡ l.fn.guesses.view)
    × (opens_of l.guesses.opens ≡ opens_of l.fn.guesses.opens)
    × AllAlmostExact R (tags_by (log_at R l.slots)) (keys_of (drop l.write-index l.written)) l.guesses.opens
