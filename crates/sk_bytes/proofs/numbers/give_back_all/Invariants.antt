-- The first numbers are given back.
use Rattle.sk_bytes.proofs.Names.{take, nat_cmp, is_in, LetsGo}
use Rattle.sk_bytes.proofs.numbers.give_back_all.Given as goal

abbrev pub invariant-loop-number : goal.invariant-loop-number
invariant-loop-number g l = LetsGo l.fn.index (is_in nat_cmp (take l.number-index l.numbers)) l.kernel.slots l.index
