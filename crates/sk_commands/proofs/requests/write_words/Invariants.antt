-- The text so far, with the words that are left, is that of all.
use Rattle.sk_commands.proofs.Names.{◌≡◌, ◌++◌, drop, map, vec_items, bulks}
use Rattle.sk_commands.proofs.requests.write_words.Given as goal

abbrev pub invariant-loop-word : goal.invariant-loop-word
invariant-loop-word l = l.text.items ++ bulks (map vec_items (drop l.word-index l.words)) ≡ l.fn.text.items ++ bulks (map vec_items l.words)
