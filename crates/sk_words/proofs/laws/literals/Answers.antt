-- A printed literal: by the shape of each spelled byte.
use Rattle.sk_words.proofs.LiteralAgain.{literal_again, literal_word, literal_once}
use Rattle.sk_words.proofs.laws.literals.Goals as goal

pub returns-clause-again : goal.returns-clause-again
returns-clause-again c = literal_again

pub returns-clause-word : goal.returns-clause-word
returns-clause-word c = literal_word

pub returns-clause-once : goal.returns-clause-once
returns-clause-once c = literal_once
