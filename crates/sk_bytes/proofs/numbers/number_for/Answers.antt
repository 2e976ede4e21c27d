-- A key that has a number keeps it, and one that has none is given one.
use Rattle.std.proofs.Common.{◌∷◌, []}
use Rattle.sk_bytes.proofs.Moves.{added_all, none_comes}
use Rattle.sk_bytes.proofs.numbers.number_for.Goals as goal

pub returns-in-Some-clause-more : goal.returns-in-Some-clause-more
returns-in-Some-clause-more c = none_comes c.args.index.now (c.in-Some.number ∷ []) c.requires

pub returns-in-None-clause-ok : goal.returns-in-None-clause-ok
returns-in-None-clause-ok c = (added_all c.args.index.now c.add.new.self c.args.key.now c.requires c.add.result c.add.ensures.ok).0

pub returns-in-None-clause-more : goal.returns-in-None-clause-more
returns-in-None-clause-more c = (added_all c.args.index.now c.add.new.self c.args.key.now c.requires c.add.result c.add.ensures.ok).1
