-- The digits that are left go on from the number so far.
use Rattle.sk_words.proofs.Names.{◌≡◌, ◌<◌, length, all_ascii_digits, digits_value, digits_value_after}
use Rattle.sk_words.proofs.values.few_digits.Given as goal

abbrev pub invariant-loop-rest : goal.invariant-loop-rest
invariant-loop-rest l = record {
  small : l.number < 1000000000;
  digits : all_ascii_digits l.fn.word ≡ all_ascii_digits l.rest;
  value : digits_value 10 l.fn.word ≡ digits_value_after 10 l.number l.rest;
}

abbrev pub decreases-loop-rest : goal.decreases-loop-rest
decreases-loop-rest l = length l.rest
