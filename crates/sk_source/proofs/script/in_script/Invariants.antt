-- The lines that are left have the line just where all lines have it.
use Rattle.sk_source.proofs.Names.{◌≡◌, ◌+◌, length, in_script}
use Rattle.sk_source.proofs.script.in_script.Given as goal

abbrev pub invariant-loop-line : goal.invariant-loop-line
invariant-loop-line l =
    in_script l.fn.name l.fn.place (l.fn.lines.line + 1) l.fn.lines.lines ≡ in_script l.fn.name l.fn.place (l.lines.line + 1) l.lines.lines

abbrev pub decreases-loop-line : goal.decreases-loop-line
decreases-loop-line l = length l.lines.lines
