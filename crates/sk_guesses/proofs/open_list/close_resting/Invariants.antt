use Rattle.sk_guesses.proofs.Names.{◌≡◌, ◌≤◌, ◌++◌, length, take, drop, not, filter, has, Listing}
use Rattle.sk_guesses.proofs.open_list.close_resting.Given as goal

abbrev pub invariant-loop-back : goal.invariant-loop-back
invariant-loop-back g l =
    (l.opens.items ≡ take l.back l.fn.opens.items ++ filter (λ (x : Listing _). not (has l.id x.guess.tags)) (drop l.back l.fn.opens.items))
    × (l.back ≤ length l.fn.opens.items)
    × (l.from ≤ l.back)
