-- The word is that of an index among the words that are left.
use Rattle.sk_faults.proofs.Names.{◌≡◌, length, drop, words}
use Rattle.sk_faults.proofs.place.place_of.Given as goal

abbrev pub invariant-loop-word : goal.invariant-loop-word
invariant-loop-word l = drop l.fn.index (words l.fn.line) ≡ drop l.left l.words

abbrev pub decreases-loop-word : goal.decreases-loop-word
decreases-loop-word l = length l.words
