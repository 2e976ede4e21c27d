use Rattle.std.proofs.Common.{◌≡◌, ℕ, ◌≤◌, length, slice_index}
use Rattle.sk_handles.proofs.reading.used_len.Given as goal

abbrev pub invariant-loop-len : goal.invariant-loop-len
invariant-loop-len l = (l.len ≤ length l.bytes) × ((i : ℕ) → l.len ≤ i → slice_index l.bytes i ≡ 0)

abbrev pub decreases-loop-len : goal.decreases-loop-len
decreases-loop-len l = l.len
