-- A word that is no text is no instruction: from the tables, whose words are all text.
use Rattle.sk_script.proofs.Names.{refl, value_rules, place_rules, object_rules, byte_rules, outer_rules, unknown}
use Rattle.sk_script.proofs.Names.{skipped, no_text}
use Rattle.sk_script.specs.Instructions.{instruction, place_instruction, object_instruction, byte_instruction, outer_instruction}
use Rattle.sk_script.proofs.parse.does.Goals as goal

pub returns-in-Err : goal.returns-in-Err
unfolding instruction place_instruction object_instruction byte_instruction outer_instruction
returns-in-Err c =
    let labels = c.args.labels.now in
    let word = c.args.word.now in
    let none = c.in-Err.ensures.cases.0 in
    rw (skipped value_rules (place_instruction labels word) word (no_text value_rules word refl none))
    (rw (skipped (place_rules labels) (object_instruction labels word) word (no_text (place_rules labels) word refl none))
    (rw (skipped object_rules (byte_instruction labels word) word (no_text object_rules word refl none))
    (rw (skipped byte_rules (outer_instruction labels word) word (no_text byte_rules word refl none))
    (rw (skipped (outer_rules labels) unknown word (no_text (outer_rules labels) word refl none)) refl))))
