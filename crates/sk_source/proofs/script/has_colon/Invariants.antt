-- A colon is among the bytes that are left just where one is among all.
use Rattle.sk_source.proofs.Names.{◌≡◌, length, has_colon}
use Rattle.sk_source.proofs.script.has_colon.Given as goal

abbrev pub invariant-loop-rest : goal.invariant-loop-rest
invariant-loop-rest l = has_colon l.rest ≡ has_colon l.fn.word

abbrev pub decreases-loop-rest : goal.decreases-loop-rest
decreases-loop-rest l = length l.rest
