-- A word that is none of this table is looked for in the next: from the words it was compared with.
use Rattle.sk_script.proofs.Names.{rules, place_rules, object_instruction, skipped}
use Rattle.sk_script.specs.Instructions.{place_instruction}
use Rattle.sk_script.proofs.parse.table.place_instruction.Goals as goal

pub returns-in_default : goal.returns-in_default
unfolding place_instruction
returns-in_default c = rw (skipped (place_rules c.args.labels.now) (object_instruction c.args.labels.now c.args.word.now) c.args.word.now (search rules)) c.object_instruction.ensures
