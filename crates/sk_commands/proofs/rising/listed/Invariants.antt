-- The keys so far.
use Rattle.sk_commands.proofs.Names.{◌≡◌}
use Rattle.sk_commands.proofs.rising.listed.Given as goal

abbrev pub invariant-loop-key : goal.invariant-loop-key
invariant-loop-key l = l.keys.items ≡ l.yielded
