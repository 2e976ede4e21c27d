-- The texts gone over do not depend on the guess.
use Rattle.sk_terminal.proofs.Names.{◌≡◌, ◌≤◌, length, drop, true, list_all}
use Rattle.sk_terminal.proofs.HeldTexts.{is_free}
use Rattle.sk_terminal.proofs.terminal.any_rest_on.Given as goal

abbrev pub invariant-loop-place : goal.invariant-loop-place
invariant-loop-place l = (l.place ≤ length l.texts) × (list_all (is_free l.id) (drop l.place l.texts) ≡ true)

abbrev pub decreases-loop-place : goal.decreases-loop-place
decreases-loop-place l = l.place
