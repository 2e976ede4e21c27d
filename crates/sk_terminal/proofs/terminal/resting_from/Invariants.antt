-- The texts gone over depend on the guess.
use Rattle.sk_terminal.proofs.Names.{◌≡◌, ◌≤◌, length, drop, true, list_all}
use Rattle.sk_terminal.proofs.HeldTexts.{rests}
use Rattle.sk_terminal.proofs.terminal.resting_from.Given as goal

abbrev pub invariant-loop-from : goal.invariant-loop-from
invariant-loop-from l = (l.from ≤ length l.texts) × (list_all (rests l.id) (drop l.from l.texts) ≡ true)

abbrev pub decreases-loop-from : goal.decreases-loop-from
decreases-loop-from l = l.from
