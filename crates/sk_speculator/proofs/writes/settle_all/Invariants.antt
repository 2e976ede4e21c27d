-- All but the keys that are left are settled.
use Rattle.sk_speculator.proofs.Names.{◌≡◌, drop, keys_of, look_at, log_at, SettledBut}
use Rattle.sk_speculator.proofs.writes.settle_all.Given as goal

abbrev pub invariant-loop-write : goal.invariant-loop-write
invariant-loop-write g l =
    let R = g.K.Key.order in
    ((q : _) → look_at R l.slots q ≡ look_at R l.fn.slots q)
    × ((q : _) → log_at R l.slots q ≡ log_at R l.fn.slots q)
    × (SettledBut R (keys_of l.written) l.fn.slots → SettledBut R (keys_of (drop l.write-index l.written)) l.slots)
