-- What the lines that are left say, behind what is declared so far, is what the whole text says, and they are the
-- last of it.
use Rattle.sk_scenario.proofs.Names.{◌≡◌, ◌+◌, None, length, lines, AreLeft, scenario_from, scenario_of}
use Rattle.sk_scenario.proofs.scenario.Scenario.parse.Given as goal

abbrev pub invariant-loop-line : goal.invariant-loop-line
invariant-loop-line l = record {
  same : scenario_of l.text ≡ scenario_from l.declarations None (l.cursor.line + 1) l.cursor.lines;
  last : l.cursor.line + length l.cursor.lines ≡ length (lines l.text);
  left : AreLeft l.cursor.lines (lines l.text);
}

abbrev pub decreases-loop-line : goal.decreases-loop-line
decreases-loop-line l = length l.cursor.lines
