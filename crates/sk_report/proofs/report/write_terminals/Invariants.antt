-- The lines of the terminals before the loop's place are written.
use Rattle.sk_report.proofs.Names.{take, flat_map, Appends}
use Rattle.sk_report.proofs.report.write_terminals.Given as goal

abbrev pub invariant-loop-terminal : goal.invariant-loop-terminal
invariant-loop-terminal g l = Appends (g.W.Write.contents l.fn.out) (g.W.Write.contents l.out) (flat_map (g.S.Subject.terminal_lines l.subject) (take l.terminal-index l.terminals))
