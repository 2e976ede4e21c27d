-- A word that is none of the tables is unknown: from the words it was compared with.
use Rattle.sk_script.proofs.Names.{rules, refl, outer_rules, unknown, skipped}
use Rattle.sk_script.specs.Instructions.{outer_instruction}
use Rattle.sk_script.proofs.parse.table.outer_instruction.Goals as goal

pub returns-in_default : goal.returns-in_default
unfolding outer_instruction
returns-in_default c = rw (skipped (outer_rules c.args.labels.now) unknown c.args.word.now (search rules)) refl
