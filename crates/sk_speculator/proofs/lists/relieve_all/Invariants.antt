-- All but the keys that are left are in the lists alone of the guesses on which they depend once this one has failed.
use Rattle.sk_speculator.proofs.Names.{◌≡◌, ◌≤◌, length, take, cut, AllAlmostExact, tags_by, opens_of, log_at}
use Rattle.sk_speculator.proofs.Failing.{AllWithin}
use Rattle.sk_speculator.proofs.lists.relieve_all.Given as goal

abbrev pub invariant-loop-place : goal.invariant-loop-place
invariant-loop-place g l =
    let R = g.K.Key.order in
    (l.guesses.view ≡ l.fn.guesses.view)
    × (opens_of l.guesses.opens ≡ opens_of l.fn.guesses.opens)
    × (l.place ≤ length l.keys)
    × AllAlmostExact R (tags_by (λ k. cut l.id (log_at R l.slots k))) (take l.place l.keys) l.guesses.opens
    × AllWithin R (tags_by (log_at R l.slots)) l.guesses.opens
