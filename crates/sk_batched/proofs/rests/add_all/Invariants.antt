-- The guesses so far, with those that are left.
use Rattle.sk_batched.proofs.Names.{◌≡◌, ℕ, ◌||◌, ◌&&◌, not, drop, ◌==◌, has}
use Rattle.sk_batched.proofs.rests.add_all.Given as goal

abbrev pub invariant-loop-id : goal.invariant-loop-id
invariant-loop-id l = (g : ℕ) → (has g l.rests.items || (has g (drop l.id-index l.ids) && not (g == l.own))) ≡ (has g l.fn.rests.items || (has g l.ids && not (g == l.own)))
