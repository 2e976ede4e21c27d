-- The keys so far are ready, and have just these tags if it is so.
use Rattle.sk_speculator.proofs.Names.{◌≡◌, true, take, keys_of, is_in, goes_unnoted, look_at, log_at, IsReady, SettledBut}
use Rattle.sk_speculator.proofs.writes.prepare_all.Given as goal

abbrev pub invariant-loop-write : goal.invariant-loop-write
invariant-loop-write g l =
    let R = g.K.Key.order in
    ((q : _) → look_at R l.slots q ≡ look_at R l.fn.slots q)
    × ((q : _) → log_at R l.slots q ≡ log_at R l.fn.slots q)
    × (SettledBut R (keys_of l.written) l.fn.slots → SettledBut R (keys_of l.written) l.slots)
    × ((q : _) → is_in R (keys_of (take l.write-index l.written)) q ≡ true → IsReady R l.tags l.slots q)
    × (l.same ≡ true → (q : _) → is_in R (keys_of (take l.write-index l.written)) q ≡ true
    → goes_unnoted l.tags (log_at R l.fn.slots q) ≡ true)
