-- Taking a script's lines: those before the loop's place are taken, and none of them ends the script.
use Rattle.sk_scenario.proofs.Names.{◌≡◌, ◌+◌, true, not, length, take, drop, list_all, is_end}
use Rattle.sk_scenario.proofs.scenario.take_script.Given as goal

abbrev pub invariant-loop-line : goal.invariant-loop-line
invariant-loop-line l = record {
  first : l.lines.line ≡ l.fn.cursor.line;
  lines : l.lines.lines ≡ l.fn.cursor.lines;
  counted : l.cursor.line ≡ l.fn.cursor.line + l.count;
  within : l.count + length l.cursor.lines ≡ length l.lines.lines;
  left : drop l.count l.lines.lines ≡ l.cursor.lines;
  none : list_all (λ line. not (is_end line)) (take l.count l.lines.lines) ≡ true;
}

abbrev pub decreases-loop-line : goal.decreases-loop-line
decreases-loop-line l = length l.cursor.lines
