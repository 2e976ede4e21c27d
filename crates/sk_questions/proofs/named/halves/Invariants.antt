-- The bytes so far lie in the first half.
use Rattle.sk_questions.proofs.Names.{◌≡◌, take, drop, halves}
use Rattle.sk_questions.proofs.Halves.{behind}
use Rattle.sk_questions.proofs.named.halves.Given as goal

abbrev pub invariant-loop-i : goal.invariant-loop-i
invariant-loop-i l = halves l.word ≡ behind (take l.i l.word) (halves (drop l.i l.word))
