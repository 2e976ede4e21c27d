-- The tags so far with those of the keys that are left are those of all.
use Rattle.sk_speculator.proofs.Names.{◌≡◌, ℕ, ◌||◌, true, drop, keys_of, has, any_rests}
use Rattle.sk_speculator.proofs.writes.add_written_tags.Given as goal

abbrev pub invariant-loop-turn : goal.invariant-loop-turn
invariant-loop-turn g l =
    let R = g.K.Key.order in
    ((n : ℕ) → (has n l.all || any_rests R l.slots n (keys_of (drop l.turn l.written))) ≡ (has n l.fn.all || any_rests R l.slots n (keys_of l.written)))
    × ((n : ℕ) → any_rests R l.slots n l.looked ≡ true → has n l.all ≡ true)
