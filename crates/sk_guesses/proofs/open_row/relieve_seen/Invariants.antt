-- What was passed over is not among these guesses; the places that are left get fewer.
use Rattle.std.proofs.Common.{◌-◌, length}
use Rattle.sk_guesses.proofs.Names.{without_entity}
use Rattle.sk_guesses.specs.Shared.{IsRelieved, is_beyond}
use Rattle.sk_guesses.proofs.Named.{IsVisited}
use Rattle.sk_guesses.proofs.open_row.relieve_seen.Given as goal

abbrev pub invariant-loop-place : goal.invariant-loop-place
invariant-loop-place g l = IsVisited (IsRelieved l.shared (λ es. without_entity g.E.Key.order es l.entity) (is_beyond l.tags l.own)) l.fn.row.items l.row.items l.place

abbrev pub decreases-loop-place : goal.decreases-loop-place
decreases-loop-place g l = length l.row.items - l.place
