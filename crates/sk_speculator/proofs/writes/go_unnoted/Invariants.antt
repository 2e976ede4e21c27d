-- The keys so far have slots, in which nothing is noted.
use Rattle.sk_speculator.proofs.Names.{◌≡◌, ◌&&◌, true, take, is_some, keys_of, is_in, found, goes_unnoted, log_at}
use Rattle.sk_speculator.proofs.writes.go_unnoted.Given as goal

abbrev pub invariant-loop-write : goal.invariant-loop-write
invariant-loop-write g l =
    let R = g.K.Key.order in
    (q : _) → is_in R (keys_of (take l.write-index l.written)) q ≡ true
    → (is_some (found R l.slots q) && goes_unnoted l.tags (log_at R l.slots q)) ≡ true
