use Rattle.std.proofs.Common.{rules}
use Rattle.sk_wire.proofs.Steps.{joins, ends}
use Rattle.sk_wire.proofs.wire.Wire.end.Goals as goal

pub absorb-requires-clause-rule : goal.absorb-requires-clause-rule
absorb-requires-clause-rule g c = joins g.T.HasNumber.number_of _ _ _ _ c.requires.sending.1 c.requires.receiving.1

pub learn_as-requires-clause-rule : goal.learn_as-requires-clause-rule
learn_as-requires-clause-rule g c = ends g.T.HasNumber.number_of _ _ (search rules) (search rules)
