-- What is no text is none of the words.
use Rattle.sk_questions.proofs.Names.{refl, skipped, no_text, question_rules, no_question}
use Rattle.sk_questions.specs.Questions.{asked_with}
use Rattle.sk_questions.proofs.asked.asked_behind.Goals as goal

pub returns-in-Err : goal.returns-in-Err
unfolding asked_with
returns-in-Err c = rw (skipped question_rules no_question c.args.word.now (no_text question_rules c.args.word.now refl c.in-Err.ensures.cases.0)) refl
