-- More counts for nothing.
use Rattle.std.proofs.Common.{arith}
use Rattle.sk_recovered.proofs.Counted.{left_more}
use Rattle.sk_recovered.proofs.recovered.Recovered.leave.Goals as goal

pub returns-clause-left : goal.returns-clause-left
returns-clause-left c = λ start first heads bytes left has.
    left_more start first heads bytes left c.args.used c.args.self.now c.saturating_add-self.result (omega (arith, c.saturating_add-self.ensures)) has
