-- The lines that are left have the line just where all lines have it.
use Rattle.sk_faults.proofs.Names.{◌≡◌, length, line_at, Declarations, lines}
use Rattle.sk_faults.proofs.part.line_at.Given as goal

abbrev pub invariant-loop-line : goal.invariant-loop-line
invariant-loop-line l = line_at Declarations l.fn.number (lines l.fn.text) ≡ line_at l.part l.number l.lines

abbrev pub decreases-loop-line : goal.decreases-loop-line
decreases-loop-line l = length l.lines
