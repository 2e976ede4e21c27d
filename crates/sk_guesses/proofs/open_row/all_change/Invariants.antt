use Rattle.sk_guesses.proofs.Names.{◌<◌, ℕ, has, slice_index_or}
use Rattle.sk_guesses.specs.Shared.{Sharing, WillChange}
use Rattle.sk_guesses.proofs.open_row.all_change.Given as goal

abbrev pub invariant-loop-place : goal.invariant-loop-place
invariant-loop-place g l = (k : ℕ) (d : Sharing _) → k < l.place → WillChange (λ h. has h l.tags) l.shared (slice_index_or l.row.items k d)
