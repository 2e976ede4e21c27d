-- What was passed over is not among these guesses; the places that are left get fewer.
use Rattle.std.proofs.Common.{◌-◌, length}
use Rattle.sk_guesses.proofs.Names.{has}
use Rattle.sk_guesses.specs.Shared.{IsPlaced}
use Rattle.sk_guesses.proofs.Named.{IsVisited}
use Rattle.sk_guesses.proofs.open_row.reserve_own.Given as goal

abbrev pub invariant-loop-place : goal.invariant-loop-place
invariant-loop-place g l = IsVisited (IsPlaced (λ h. has h l.tags) l.shared) l.fn.row.items l.row.items l.place

abbrev pub decreases-loop-place : goal.decreases-loop-place
decreases-loop-place g l = length l.row.items - l.place
