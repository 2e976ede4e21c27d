-- A word that begins no question asks nothing.
use Rattle.sk_questions.proofs.Names.{refl, rules, skipped, question_rules, no_question}
use Rattle.sk_questions.specs.Questions.{asked_with}
use Rattle.sk_questions.proofs.asked.asked_with.Goals as goal

pub returns-in_default : goal.returns-in_default
unfolding asked_with
returns-in_default c = rw (skipped question_rules no_question c.args.word.now (search rules)) refl
