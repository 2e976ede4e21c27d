use Rattle.sk_wire.proofs.Steps.{pops, empty}
use Rattle.sk_wire.proofs.wire.Wire.pop.Goals as goal

pub pop_as-received-requires-clause-rule : goal.pop_as-received-requires-clause-rule
pop_as-received-requires-clause-rule g c = (pops g.T.HasNumber.number_of _ _ c.requires.1, empty g.T.HasNumber.number_of _ _)
