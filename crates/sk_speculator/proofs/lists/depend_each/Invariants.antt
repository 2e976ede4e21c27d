-- The keys so far are in the lists of all the guesses.
use Rattle.sk_speculator.proofs.Names.{◌≡◌, take, AllExact, tags_by, with_tags, opens_of, log_at}
use Rattle.sk_speculator.proofs.lists.depend_each.Given as goal

abbrev pub invariant-loop-key : goal.invariant-loop-key
invariant-loop-key g l =
    let R = g.K.Key.order in
    (l.guesses.view ≡ l.fn.guesses.view)
    × (opens_of l.guesses.opens ≡ opens_of l.fn.guesses.opens)
    × AllExact R (with_tags R l.tags (take l.key-index l.keys) (tags_by (log_at R l.slots))) l.guesses.opens
