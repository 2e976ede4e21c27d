use Rattle.sk_workers.proofs.Names.{ℕ, ◌<◌, Agrees}
use Rattle.sk_workers.proofs.closing.bad_in.Given as goal

abbrev pub invariant-loop-k : goal.invariant-loop-k
invariant-loop-k l = (j : ℕ) → j < l.k → Agrees l.history l.receipts j
