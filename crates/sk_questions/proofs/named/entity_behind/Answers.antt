-- What is no text is none of the words.
use Rattle.sk_questions.proofs.Names.{refl, unknown, skipped, no_text, entity_rules}
use Rattle.sk_questions.specs.Named.{entity_of}
use Rattle.sk_questions.proofs.named.entity_behind.Goals as goal

pub returns-in-Err : goal.returns-in-Err
unfolding entity_of
returns-in-Err c = rw (skipped entity_rules unknown c.args.word.now (no_text entity_rules c.args.word.now refl c.in-Err.ensures.cases.0)) refl
