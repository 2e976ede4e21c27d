-- The words of the bytes that are left are those of the line.
use Rattle.sk_words.proofs.Names.{◌≡◌, length, words}
use Rattle.sk_words.proofs.line.trimmed.Given as goal

abbrev pub invariant-loop-rest : goal.invariant-loop-rest
invariant-loop-rest l = words l.rest ≡ words l.fn.line

abbrev pub decreases-loop-rest : goal.decreases-loop-rest
decreases-loop-rest l = length l.rest
