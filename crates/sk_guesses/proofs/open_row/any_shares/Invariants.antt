-- None that was passed shares the list.
use Rattle.sk_guesses.proofs.Names.{◌≡◌, ◌<◌, ℕ, false, slice_index_or}
use Rattle.sk_guesses.specs.Shared.{Sharing}
use Rattle.sk_guesses.proofs.open_row.any_shares.Given as goal

abbrev pub invariant-loop-place : goal.invariant-loop-place
invariant-loop-place g l = (k : ℕ) (d : Sharing _) → k < l.place → (slice_index_or l.row.items k d).shares ≡ false
