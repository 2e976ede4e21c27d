-- A quote is among the bytes that are left just where one is among all.
use Rattle.sk_words.proofs.Names.{◌≡◌, length, has_quote}
use Rattle.sk_words.proofs.line.has_quote.Given as goal

abbrev pub invariant-loop-rest : goal.invariant-loop-rest
invariant-loop-rest l = has_quote l.rest ≡ has_quote l.fn.bytes

abbrev pub decreases-loop-rest : goal.decreases-loop-rest
decreases-loop-rest l = length l.rest
