use Rattle.sk_guesses.proofs.Names.{◌≡◌, ◌<◌, ℕ, slice_index_or}
use Rattle.sk_guesses.proofs.entity_set.are_same.Given as goal

abbrev pub invariant-loop-place : goal.invariant-loop-place
invariant-loop-place g l = (k : ℕ) (d : _) → k < l.place → slice_index_or l.entities k d ≡ slice_index_or l.others k d
