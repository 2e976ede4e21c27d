-- What was written, with the numbers that are left, is that of all.
use Rattle.sk_messages.proofs.Names.{◌≡◌, ◌++◌, drop, number_bytes}
use Rattle.sk_messages.proofs.numbers.write_numbers.Given as goal

abbrev pub invariant-loop-number : goal.invariant-loop-number
invariant-loop-number l = l.out.items ++ number_bytes (drop l.number-index l.numbers) ≡ l.fn.out.items ++ number_bytes l.numbers
