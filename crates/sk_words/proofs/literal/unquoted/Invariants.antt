-- The bytes so far, and those that the rest says, are those of the literal.
use Rattle.sk_words.proofs.Names.{◌≡◌, ◌≤◌, length, take, text_from, Plain}
use Rattle.sk_words.proofs.Bytes.{with_front}
use Rattle.sk_words.proofs.literal.unquoted.Given as goal

abbrev pub invariant-loop-rest : goal.invariant-loop-rest
invariant-loop-rest l = record {
  short : l.len ≤ 512;
  cells : length l.cells ≡ 512;
  said : text_from Plain l.fn.bytes ≡ with_front (take l.len l.cells) (text_from Plain l.rest);
}

abbrev pub decreases-loop-rest : goal.decreases-loop-rest
decreases-loop-rest l = length l.rest
