-- A printed number: by its digits.
use Rattle.sk_words.proofs.NumberAgain.{natural_again, positive_again, number_word}
use Rattle.sk_words.proofs.laws.numbers.Goals as goal

pub returns-clause-natural : goal.returns-clause-natural
returns-clause-natural c = natural_again

pub returns-clause-positive : goal.returns-clause-positive
returns-clause-positive c = positive_again

pub returns-clause-word : goal.returns-clause-word
returns-clause-word c = number_word
