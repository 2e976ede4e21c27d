-- The bytes so far lie in the first word.
use Rattle.sk_words.proofs.Names.{◌≡◌, take, drop, words_from, Word}
use Rattle.sk_words.proofs.Cut.{onto}
use Rattle.sk_words.proofs.line.bare_len.Given as goal

abbrev pub invariant-loop-i : goal.invariant-loop-i
invariant-loop-i l = words_from Word l.line ≡ onto (take l.i l.line) (words_from Word (drop l.i l.line))
