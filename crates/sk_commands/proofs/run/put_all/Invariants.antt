-- What is written, with the pairs of the words that are left, is what was and all pairs.
use Rattle.sk_commands.proofs.Names.{◌≡◌, ◌+◌, ◌≤◌, ◌++◌, map, vec_len, vec_capacity, vec_items, into_iter_items}
use Rattle.sk_commands.proofs.Names.{into_iter_len, pairs_of, told}
use Rattle.sk_commands.proofs.run.put_all.Given as goal

abbrev pub invariant-loop-key : goal.invariant-loop-key
invariant-loop-key l =
    (told l.written.items ++ pairs_of (map vec_items (into_iter_items l.words)) ≡ told l.initial.written.items ++ pairs_of (map vec_items (into_iter_items l.initial.words)))
    × (vec_len l.written + into_iter_len l.words ≤ vec_capacity l.written)

abbrev pub decreases-loop-key : goal.decreases-loop-key
decreases-loop-key l = into_iter_len l.words
