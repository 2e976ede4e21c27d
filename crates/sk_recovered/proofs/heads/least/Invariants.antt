-- The least number of those that were seen.
use Rattle.sk_recovered.proofs.Names.{◌≡◌, ◌≤◌, drop, length, least}
use Rattle.sk_recovered.proofs.heads.least.Given as goal

abbrev pub invariant-loop-i : goal.invariant-loop-i
invariant-loop-i l = record {
  within : l.i ≤ length l.heads;
  is : l.bound ≡ least (drop l.i l.heads);
}

abbrev pub decreases-loop-i : goal.decreases-loop-i
decreases-loop-i l = l.i
