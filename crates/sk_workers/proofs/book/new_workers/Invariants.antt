use Rattle.sk_workers.proofs.Names.{◌≡◌, ◌+◌, ◌≤◌, vec_len, vec_capacity, AreFresh}
use Rattle.sk_workers.proofs.book.new_workers.Given as goal

abbrev pub invariant-loop-number : goal.invariant-loop-number
invariant-loop-number g l = (l.all.parts + l.number ≡ l.n) × (l.all.amount ≡ 0) × (vec_len l.workers ≡ l.number) × (l.n ≤ vec_capacity l.workers) × AreFresh l.number l.workers.items
