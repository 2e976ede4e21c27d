-- The texts gone over are without the guess.
use Rattle.std.proofs.Common.{◌≡◌, ◌≤◌, length}
use Rattle.sk_terminal.proofs.HeldTexts.{light_from}
use Rattle.sk_terminal.proofs.terminal.take_out.Given as goal

abbrev pub invariant-loop-before : goal.invariant-loop-before
invariant-loop-before l = (l.texts.items ≡ light_from l.id l.before l.fn.texts.items) × (l.before ≤ length l.fn.texts.items) × (length l.texts.items ≡ length l.fn.texts.items)

abbrev pub decreases-loop-before : goal.decreases-loop-before
decreases-loop-before l = l.before
