-- A word that begins no name is unknown.
use Rattle.sk_questions.proofs.Names.{refl, rules, unknown, skipped, entity_rules}
use Rattle.sk_questions.specs.Named.{entity_of}
use Rattle.sk_questions.proofs.named.entity_of.Goals as goal

pub returns-in_default : goal.returns-in_default
unfolding entity_of
returns-in_default c = rw (skipped entity_rules unknown c.args.word.now (search rules)) refl
