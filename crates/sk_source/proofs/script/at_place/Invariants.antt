-- The lines that are left have the line just where all lines have it.
use Rattle.sk_source.proofs.Names.{◌≡◌, ◌+◌, length, at_place}
use Rattle.sk_source.proofs.script.at_place.Given as goal

abbrev pub invariant-loop-line : goal.invariant-loop-line
invariant-loop-line l = at_place l.fn.place (l.fn.lines.line + 1) l.fn.lines.lines ≡ at_place l.left (l.lines.line + 1) l.lines.lines

abbrev pub decreases-loop-line : goal.decreases-loop-line
decreases-loop-line l = length l.lines.lines
