-- A word that is none of this table is looked for in the next: from the words it was compared with.
use Rattle.sk_script.proofs.Names.{rules, byte_rules, outer_instruction, skipped}
use Rattle.sk_script.specs.Instructions.{byte_instruction}
use Rattle.sk_script.proofs.parse.table.byte_instruction.Goals as goal

pub returns-in_default : goal.returns-in_default
unfolding byte_instruction
returns-in_default c = rw (skipped byte_rules (outer_instruction c.args.labels.now c.args.word.now) c.args.word.now (search rules)) c.outer_instruction.ensures
