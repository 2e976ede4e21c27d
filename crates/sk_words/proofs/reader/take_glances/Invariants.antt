-- The lines that are left say of the state so far what all lines say of the first, and the last of them stays.
use Rattle.sk_words.proofs.Names.{◌≡◌, ◌≤◌, ◌+◌, length, read_from}
use Rattle.sk_words.proofs.reader.take_glances.Given as goal

abbrev pub invariant-loop-text : goal.invariant-loop-text
invariant-loop-text g l = record {
  same : read_from g.R.Reader.said l.reader (l.lines.line + 1) l.lines.lines ≡ read_from g.R.Reader.said l.fn.reader (l.fn.lines.line + 1) l.fn.lines.lines;
  first : l.fn.lines.line ≤ l.lines.line;
  last : l.lines.line + length l.lines.lines ≡ l.fn.lines.line + length l.fn.lines.lines;
}

abbrev pub decreases-loop-text : goal.decreases-loop-text
decreases-loop-text g l = length l.lines.lines
