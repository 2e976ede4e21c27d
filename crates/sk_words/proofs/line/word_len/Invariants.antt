-- The bytes so far lie in the first word.
use Rattle.sk_words.proofs.Names.{◌≡◌, ◌≢◌, take, drop, words_from, Between}
use Rattle.sk_words.proofs.Cut.{onto}
use Rattle.sk_words.proofs.line.word_len.Given as goal

abbrev pub invariant-loop-i : goal.invariant-loop-i
invariant-loop-i l = record {
  inside : l.place ≢ Between;
  cut : words_from l.fn.from l.line ≡ onto (take l.i l.line) (words_from l.place (drop l.i l.line));
}
