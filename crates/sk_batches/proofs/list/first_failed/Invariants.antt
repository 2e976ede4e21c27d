-- None so far.
use Rattle.sk_batches.proofs.Names.{◌≡◌, drop, first_failed}
use Rattle.sk_batches.proofs.list.first_failed.Given as goal

abbrev pub invariant-loop-place : goal.invariant-loop-place
invariant-loop-place l = first_failed l.batches ≡ first_failed (drop l.place l.batches)
