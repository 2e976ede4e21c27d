-- The words of an entity: kind by kind.
use Rattle.sk_questions.proofs.Again.{entity_again, entity_is_words, words_cut_again}
use Rattle.sk_questions.proofs.laws.entities.Goals as goal

pub returns-clause-again : goal.returns-clause-again
returns-clause-again c = entity_again

pub returns-clause-words : goal.returns-clause-words
returns-clause-words c = entity_is_words

pub returns-clause-line : goal.returns-clause-line
returns-clause-line c = words_cut_again
