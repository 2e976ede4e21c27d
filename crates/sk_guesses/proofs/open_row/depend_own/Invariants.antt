-- What was passed over is not among these guesses; the places that are left get fewer.
use Rattle.std.proofs.Common.{◌-◌, length}
use Rattle.sk_guesses.proofs.Names.{has, with_entity}
use Rattle.sk_guesses.specs.Shared.{IsChanged}
use Rattle.sk_guesses.proofs.Named.{IsVisited}
use Rattle.sk_guesses.proofs.open_row.depend_own.Given as goal

abbrev pub invariant-loop-place : goal.invariant-loop-place
invariant-loop-place g l = IsVisited (IsChanged (λ es. with_entity g.E.Key.order es l.entity) (λ h. has h l.tags)) l.fn.row.items l.row.items l.place

abbrev pub decreases-loop-place : goal.decreases-loop-place
decreases-loop-place g l = length l.row.items - l.place
