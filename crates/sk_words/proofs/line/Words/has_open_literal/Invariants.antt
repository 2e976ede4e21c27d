-- An open literal is among the words that are left just where one is among all words.
use Rattle.sk_words.proofs.Names.{◌≡◌, length, list_any, is_open}
use Rattle.sk_words.proofs.line.Words.has_open_literal.Given as goal

abbrev pub invariant-loop-word : goal.invariant-loop-word
invariant-loop-word l = list_any is_open l.words ≡ list_any is_open l.fn.self

abbrev pub decreases-loop-word : goal.decreases-loop-word
decreases-loop-word l = length l.words
