-- The bytes so far lie in the first part.
use Rattle.sk_words.proofs.Names.{◌≡◌, take, drop, parts}
use Rattle.sk_words.proofs.Cut.{onto}
use Rattle.sk_words.proofs.text.cut.Given as goal

abbrev pub invariant-loop-i : goal.invariant-loop-i
invariant-loop-i l = parts l.fn.separator l.text ≡ onto (take l.i l.text) (parts l.fn.separator (drop l.i l.text))
