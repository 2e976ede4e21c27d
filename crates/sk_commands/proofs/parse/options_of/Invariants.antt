-- What the words that are left make of the options so far is what all make of none.
use Rattle.sk_commands.proofs.Names.{◌≡◌, drop, map, Some, vec_items, plainly, with_options}
use Rattle.sk_commands.proofs.parse.options_of.Given as goal

abbrev pub invariant-loop-word : goal.invariant-loop-word
invariant-loop-word l = with_options (map vec_items (drop l.word-index l.words)) (Some l.options) ≡ with_options (map vec_items l.words) (Some plainly)
