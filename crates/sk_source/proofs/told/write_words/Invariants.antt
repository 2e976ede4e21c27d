-- What is written, and the words that are left, are the words of the line.
use Rattle.sk_source.proofs.Names.{◌≡◌, ◌++◌, List, ℕ, length, words, spelled, Appends}
use Rattle.sk_source.proofs.told.write_words.Given as goal

abbrev pub invariant-loop-word : goal.invariant-loop-word
invariant-loop-word g l =
    (text : List ℕ) × Appends (g.W.Write.contents l.fn.out) (g.W.Write.contents l.out) text × (spelled (words l.fn.line) ≡ text ++ spelled l.words)

abbrev pub decreases-loop-word : goal.decreases-loop-word
decreases-loop-word g l = length l.words
