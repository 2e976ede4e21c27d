-- What was passed over is not among these guesses; the places that are left get fewer.
use Rattle.std.proofs.Common.{◌-◌, length}
use Rattle.sk_guesses.proofs.Names.{◌≡◌, ◌<◌, ℕ, true, false, slice_index_or}
use Rattle.sk_guesses.specs.Shared.{Sharing, is_named}
use Rattle.sk_guesses.proofs.open_row.any_named.Given as goal

abbrev pub invariant-loop-place : goal.invariant-loop-place
invariant-loop-place g l = (k : ℕ) (d : Sharing _) → k < l.place → (slice_index_or l.row.items k d).shares ≡ true → is_named l.within l.tags (slice_index_or l.row.items k d).guess.id ≡ false

abbrev pub decreases-loop-place : goal.decreases-loop-place
decreases-loop-place g l = length l.row.items - l.place
