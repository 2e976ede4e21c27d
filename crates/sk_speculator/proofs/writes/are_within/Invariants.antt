-- What keys depend on is among these guesses, or a key that is left depends on it.
use Rattle.sk_speculator.proofs.Names.{◌≡◌, ℕ, ◌||◌, true, drop, has, any_rests}
use Rattle.sk_speculator.proofs.writes.are_within.Given as goal

abbrev pub invariant-loop-turn : goal.invariant-loop-turn
invariant-loop-turn g l =
    let R = g.K.Key.order in
    (n : ℕ) → any_rests R l.slots n l.looked ≡ true → (has n l.tags || any_rests R l.slots n (drop l.turn l.looked)) ≡ true
