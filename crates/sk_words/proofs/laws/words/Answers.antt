-- Printed words: word by word.
use Rattle.sk_words.proofs.WordsAgain.{bare_word, words_again, words_closed, spaced_line}
use Rattle.sk_words.proofs.laws.words.Goals as goal

pub returns-clause-bare : goal.returns-clause-bare
returns-clause-bare c = bare_word

pub returns-clause-again : goal.returns-clause-again
returns-clause-again c = words_again

pub returns-clause-closed : goal.returns-clause-closed
returns-clause-closed c = words_closed

pub returns-clause-line : goal.returns-clause-line
returns-clause-line c = spaced_line
