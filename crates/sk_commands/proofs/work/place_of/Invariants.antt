-- The key stands behind the keys so far.
use Rattle.sk_commands.proofs.Placed.{IsBehind}
use Rattle.sk_commands.proofs.work.place_of.Given as goal

abbrev pub invariant-loop-i : goal.invariant-loop-i
invariant-loop-i l = IsBehind l.key l.keys l.i
