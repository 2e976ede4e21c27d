-- The forms and words that are left have the first fault just where all have it.
use Rattle.sk_faults.proofs.Names.{◌≡◌, ◌+◌, length, count_at}
use Rattle.sk_faults.proofs.found.count_at.Given as goal

abbrev pub invariant-loop-forms : goal.invariant-loop-forms
invariant-loop-forms l = record {
  same : count_at 1 l.fn.forms l.fn.words ≡ count_at l.index l.forms l.words;
  taken : l.index + length l.forms ≡ 1 + length l.fn.forms;
}

abbrev pub decreases-loop-forms : goal.decreases-loop-forms
decreases-loop-forms l = length l.forms
