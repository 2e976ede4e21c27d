-- None so far.
use Rattle.sk_batches.proofs.Names.{◌≡◌, ◌&&◌, ℕ, drop, nat_le, list_any}
use Rattle.sk_batches.proofs.record.is_any_within.Given as goal

abbrev pub invariant-loop-number : goal.invariant-loop-number
invariant-loop-number l =
    list_any (λ (n : ℕ). nat_le l.first n && nat_le n l.last) l.numbers ≡ list_any (λ (n : ℕ). nat_le l.first n && nat_le n l.last) (drop l.number-index l.numbers)
