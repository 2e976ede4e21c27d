-- The numbers of the first places are given back where they are not used.
use Rattle.sk_bytes.proofs.Names.{◌≡◌, ◌<◌, ℕ, true, Bool, LetsGo}
use Rattle.sk_bytes.proofs.numbers.give_back_unused.Given as goal

abbrev pub invariant-loop-place : goal.invariant-loop-place
invariant-loop-place g l = (some : ℕ → Bool) × LetsGo l.fn.index some l.kernel.slots l.index × ((n : ℕ) → n < l.place → some n ≡ true)
