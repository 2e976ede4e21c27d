-- One that has no output has none to take.
use Rattle.sk_outputs.proofs.Names.{◌≡◌, get_or, sym, ◌∙◌, ap, arith, nat_lt}
use Rattle.sk_outputs.proofs.Counted.{none_ready}
use Rattle.sk_outputs.proofs.outputs.has_next.Goals as goal

pub returns-else-count_of-gt0 : goal.returns-else-count_of-gt0
returns-else-count_of-gt0 g c =
    let none : get_or c.args.counts.now c.args.to 0 ≡ 0 = omega (arith, c.if-count_of-gt0.false, c.count_of.ensures) in
    let zero : c.count_of.result ≡ 0 = omega (arith, c.if-count_of-gt0.false) in
    ap (nat_lt 0) zero ∙ sym (none_ready c.args.said.now.items c.args.counts.now c.args.to c.requires.counted none)
