-- The number is at least what it was, and each guess gone over.
use Rattle.sk_terminal.proofs.Names.{◌≡◌, ◌≤◌, ℕ, true, take, has}
use Rattle.sk_terminal.proofs.terminal.newest_of.Given as goal

abbrev pub invariant-loop-id : goal.invariant-loop-id
invariant-loop-id l = (l.newest ≤ l.greatest) × ((g : ℕ) → has g (take l.id-index l.id-items) ≡ true → g ≤ l.greatest)
