-- What was written, with the numbers that are left, is that of all.
use Rattle.sk_messages.proofs.Names.{◌≡◌, ◌++◌, drop, number_bytes}
use Rattle.sk_messages.proofs.numbers.write_guesses.Given as goal

abbrev pub invariant-loop-guess : goal.invariant-loop-guess
invariant-loop-guess l = l.out.items ++ number_bytes (drop l.guess-index l.guesses) ≡ l.fn.out.items ++ number_bytes l.guesses
