-- The tags so far with those of the keys that are left are those of all.
use Rattle.sk_speculator.proofs.Names.{◌≡◌, ℕ, ◌||◌, drop, has, any_rests}
use Rattle.sk_speculator.proofs.writes.add_tags.Given as goal

abbrev pub invariant-loop-key : goal.invariant-loop-key
invariant-loop-key g l =
    let R = g.K.Key.order in
    (n : ℕ) → (has n l.all || any_rests R l.slots n (drop l.key-index l.keys)) ≡ (has n l.fn.all || any_rests R l.slots n l.keys)
