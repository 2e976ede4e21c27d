-- A word that is none of this table is looked for in the next: from the words it was compared with.
use Rattle.sk_script.proofs.Names.{rules, object_rules, byte_instruction, skipped}
use Rattle.sk_script.specs.Instructions.{object_instruction}
use Rattle.sk_script.proofs.parse.table.object_instruction.Goals as goal

pub returns-in_default : goal.returns-in_default
unfolding object_instruction
returns-in_default c = rw (skipped object_rules (byte_instruction c.args.labels.now c.args.word.now) c.args.word.now (search rules)) c.byte_instruction.ensures
