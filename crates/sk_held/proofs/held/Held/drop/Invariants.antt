-- Just the tokens of what is undecided or struck are left.
use Rattle.sk_held.proofs.Names.{length, AreHeld}
use Rattle.sk_held.proofs.held.Held.drop.Given as goal

abbrev pub invariant-loop-token : goal.invariant-loop-token
invariant-loop-token l = AreHeld l.kernel.parts l.tokens.items

abbrev pub decreases-loop-token : goal.decreases-loop-token
decreases-loop-token l = length l.tokens.items
