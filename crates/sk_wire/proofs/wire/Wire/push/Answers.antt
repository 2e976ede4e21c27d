use Rattle.sk_wire.proofs.Steps.{pushes, full}
use Rattle.sk_wire.proofs.wire.Wire.push.Goals as goal

pub push_as-sent-requires-clause-rule : goal.push_as-sent-requires-clause-rule
push_as-sent-requires-clause-rule g c = (pushes g.T.HasNumber.number_of _ _ _ _ c.requires.pass.1 c.requires.number c.requires.limit, full g.T.HasNumber.number_of _ _ c.requires.pass.1)
