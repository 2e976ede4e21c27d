-- The keys so far are in the lists of all the guesses.
use Rattle.sk_speculator.proofs.Names.{◌≡◌, take, AllExact, tags_by, with_tags, keys_of, opens_of, log_at}
use Rattle.sk_speculator.proofs.lists.depend_few.Given as goal

abbrev pub invariant-loop-write : goal.invariant-loop-write
invariant-loop-write g l =
    let R = g.K.Key.order in
    (l.guesses.view ≡ l.fn.guesses.view)
    × (opens_of l.guesses.opens ≡ opens_of l.fn.guesses.opens)
    × AllExact R (with_tags R l.tags (keys_of (take l.write-index l.written)) (tags_by (log_at R l.slots))) l.guesses.opens
