-- Room for an output, for its channel, and for its count.
use Rattle.sk_outputs.proofs.Names.{on_ok_weaker}
use Rattle.std.proofs.Common.{arith}
use Rattle.sk_outputs.proofs.outputs.Outputs.reserve.Goals as goal

pub returns-clause-ok : goal.returns-clause-ok
returns-clause-ok g c =
    on_ok_weaker c.reserve_count.result
    (λ near. (omega (arith, c.in_ok-reserve.ensures.ok, c.len.ensures, c.in_ok-reserve-2.ensures.ok.0, c.in_ok-reserve-2.ensures.ok.1), near))
    c.reserve_count.ensures.ok
