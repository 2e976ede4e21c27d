use Rattle.sk_workers.proofs.Names.{◌≡◌, ℕ, ◌<◌, Some, slice_get, WorkerView, Stands}
use Rattle.sk_workers.proofs.closing.disagreement.Given as goal

abbrev pub invariant-loop-i : goal.invariant-loop-i
invariant-loop-i g l = (j : ℕ) (w : WorkerView) → j < l.i → slice_get l.workers.items j ≡ Some w → Stands l.history w
