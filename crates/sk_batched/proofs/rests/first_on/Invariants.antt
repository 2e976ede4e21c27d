-- Each key so far is a batch's.
use Rattle.sk_batched.proofs.Names.{◌≡◌, false, take, list_any}
use Rattle.sk_bytes.specs.Calls.{resting_on}
use Rattle.sk_batched.proofs.Standing.{is_free}
use Rattle.sk_batched.proofs.rests.first_on.Given as goal

abbrev pub invariant-loop-place : goal.invariant-loop-place
invariant-loop-place g l = list_any is_free (take l.place (resting_on l.kernel l.id)) ≡ false
