-- The bytes that are left close the literal just where all its bytes do.
use Rattle.sk_words.proofs.Names.{◌≡◌, ◌≢◌, length, is_open_from, Between, Literal}
use Rattle.sk_words.proofs.line.has_no_end.Given as goal

abbrev pub invariant-loop-rest : goal.invariant-loop-rest
invariant-loop-rest l = record {
  inside : l.place ≢ Between;
  same : is_open_from Literal l.fn.bytes ≡ is_open_from l.place l.rest;
}

abbrev pub decreases-loop-rest : goal.decreases-loop-rest
decreases-loop-rest l = length l.rest
