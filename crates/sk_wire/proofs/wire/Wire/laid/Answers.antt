use Rattle.std.proofs.Common.{rules}
use Rattle.sk_wire.proofs.Steps.{begins, splits}
use Rattle.sk_wire.proofs.wire.Wire.laid.Goals as goal

pub ruled-requires-clause-rule : goal.ruled-requires-clause-rule
ruled-requires-clause-rule g c = begins g.T.HasNumber.number_of

pub another-receiving-requires-clause-rule : goal.another-receiving-requires-clause-rule
another-receiving-requires-clause-rule g c = splits g.T.HasNumber.number_of _ _ _ (search rules)
