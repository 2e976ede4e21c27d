-- The guesses of the keys that were looked at are in the set when those of the written ones are added.
use Rattle.sk_speculator.proofs.Names.{◌∙◌, or_right}
use Rattle.sk_speculator.proofs.asking.tags_of_step.Goals as goal

pub add_written_tags-requires : goal.add_written_tags-requires
add_written_tags-requires g c = λ n rests. c.in_ok-add_tags.ensures n ∙ or_right _ _ rests
