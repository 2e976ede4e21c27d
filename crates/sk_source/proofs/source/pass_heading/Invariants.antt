-- The lines that are left have the events that all lines have.
use Rattle.sk_source.proofs.Names.{◌≡◌, ◌+◌, length, events_in}
use Rattle.sk_source.proofs.source.pass_heading.Given as goal

abbrev pub invariant-loop-line : goal.invariant-loop-line
invariant-loop-line l = events_in (l.fn.lines.line + 1) l.fn.lines.lines ≡ events_in (l.lines.line + 1) l.lines.lines

abbrev pub decreases-loop-line : goal.decreases-loop-line
decreases-loop-line l = length l.lines.lines
