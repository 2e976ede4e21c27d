-- All maps are empty.
use Rattle.sk_undo.proofs.Cites.{◌∙◌}
use Rattle.std.specs.FinMap as map
use Rattle.sk_undo.specs.Kinds.{joined}
use Rattle.sk_undo.proofs.ByKind.{joined_empty}
use Rattle.sk_undo.proofs.entity_map.EntityMap.new.Goals as goal

pub returns : goal.returns
returns g c =
    (λ i. joined (c.new.ensures i) (c.new-2.ensures i) (c.new-3.ensures i) (c.new-4.ensures i) (c.new-5.ensures i) (c.new-6.ensures i))
    ∙ joined_empty
