-- The labels so far, and those of the lines that are left, are the labels of all lines.
use Rattle.sk_script.proofs.Names.{◌≡◌, ◌≤◌, ◌++◌, length, labels_from}
use Rattle.sk_script.proofs.parse.labels_of.Given as goal

abbrev pub invariant-loop-line : goal.invariant-loop-line
invariant-loop-line l = record {
  place : l.place ≤ 4097;
  fewer : length l.lines.lines ≤ length l.fn.lines.lines;
  same : labels_from 0 l.fn.lines.lines ≡ l.labels ++ labels_from l.place l.lines.lines;
}

abbrev pub decreases-loop-line : goal.decreases-loop-line
decreases-loop-line l = length l.lines.lines
