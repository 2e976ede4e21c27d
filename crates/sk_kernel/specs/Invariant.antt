-- What holds of the parts of a kernel between its calls.
use Rattle.std.specs.Prelude.{◌≡◌, ℕ, ◌+◌, ◌≤◌, length, Some}
use Rattle.sk_kernel.specs.Base.{status_in, MergedStands, Undecided, Parts, machine_of, plain}
use Rattle.sk_kernel.specs.Kernel.{KernelView, events_of, last_guess}

-- what the parts say of the trace, and of the guesses of earlier epochs
pub record Stands (k : KernelView) (m : Parts) : Type 0 where
  -- values, logs, open guesses, statuses and texts are what the trace comes to, but for notes that are left out
  pub trace : MergedStands (plain k.scripts) k.start (events_of k) (machine_of m)
  pub earlier : m.guesses.earlier ≡ k.earlier
  pub decided : (g : ℕ) → status_in k.earlier g ≡ Some Undecided → ⊥

pub record IsWhole (k : KernelView) (m : Parts) (room : ℕ) : Type 0 where
  pub stands : Stands k m
  pub number : m.guesses.kernel ≡ k.number
  pub drawn : length k.earlier + length m.guesses.statuses ≡ last_guess k
  -- a place of the trace is kept for the decision of each open guess
  pub place : length m.opens ≤ room
