-- What is noted, with what is left to note, and the room for it.
use Rattle.sk_guesses.proofs.Names.{◌≡◌, ◌≤◌, ◌+◌, ◌++◌, length, map, drop, vec_capacity, struck_with, opens_of}
use Rattle.std.specs.Prelude.{◌-◌}
use Rattle.sk_guesses.proofs.Opens.{guess_of}
use Rattle.sk_guesses.proofs.open_guesses.strike_all.Given as goal

abbrev pub invariant-loop-place : goal.invariant-loop-place
invariant-loop-place g l =
    (l.struck.items ++ struck_with l.id (opens_of (map guess_of (drop l.place l.opens.items))) ≡ l.fn.struck.items ++ struck_with l.id (opens_of (map guess_of l.opens.items)))
    × (length l.struck.items + (length l.opens.items - l.place) ≤ vec_capacity l.struck)
    × (vec_capacity l.struck ≡ vec_capacity l.fn.struck)
