-- A word that is none of this table is looked for in the next: from the words it was compared with.
use Rattle.sk_script.proofs.Names.{rules, value_rules, place_instruction, skipped}
use Rattle.sk_script.specs.Instructions.{instruction}
use Rattle.sk_script.proofs.parse.table.instruction_of.Goals as goal

pub returns-in_default : goal.returns-in_default
unfolding instruction
returns-in_default c = rw (skipped value_rules (place_instruction c.args.labels.now c.args.word.now) c.args.word.now (search rules)) c.place_instruction.ensures
