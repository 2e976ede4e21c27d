-- The digits before the loop's place were read.
use Rattle.sk_scenario.proofs.Names.{◌<◌, length}
use Rattle.sk_scenario.proofs.Numbered.{AreRead}
use Rattle.sk_scenario.proofs.glance.number_line.Given as goal

abbrev pub invariant-loop-digit : goal.invariant-loop-digit
invariant-loop-digit l = record {
  small : l.number < 1000000000;
  read : AreRead l.fn.text l.rest l.number;
}

abbrev pub decreases-loop-digit : goal.decreases-loop-digit
decreases-loop-digit l = length l.rest
