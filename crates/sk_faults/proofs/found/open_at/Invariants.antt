-- The words that are left have the first open literal just where all words have it.
use Rattle.sk_faults.proofs.Names.{◌≡◌, length, open_at}
use Rattle.sk_faults.proofs.found.open_at.Given as goal

abbrev pub invariant-loop-word : goal.invariant-loop-word
invariant-loop-word l = open_at 1 l.fn.words ≡ open_at l.index l.words

abbrev pub decreases-loop-word : goal.decreases-loop-word
decreases-loop-word l = length l.words
