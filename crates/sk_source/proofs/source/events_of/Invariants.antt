-- The events that were told, and those of the lines that are left, are those of the text.
use Rattle.sk_source.proofs.Names.{◌≡◌, ◌+◌, ◌++◌, length, map, vec_items, lines, events_from, events_in}
use Rattle.sk_source.proofs.source.events_of.Given as goal

abbrev pub invariant-loop-line : goal.invariant-loop-line
invariant-loop-line l = events_in 1 (lines l.fn.text) ≡ map vec_items l.events.items ++ events_from (l.lines.line + 1) l.lines.lines

abbrev pub decreases-loop-line : goal.decreases-loop-line
decreases-loop-line l = length l.lines.lines
